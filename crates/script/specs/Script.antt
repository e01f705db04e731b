-- A line of a script: a word, and the numbers or the file's name behind it. s is a line, or what is left of it, as its characters; v are the numbers so far.
use Rattle.std.specs.Prelude.{ℕ, zero, suc, ◌+◌, ◌-◌, ◌*◌, Bool, true, false, not, cond, List, [], ◌∷◌, length, take, drop, set, eqb, ltb}
use Rattle.std.specs.Prelude.{Option, Some, None, codes, if◌then◌else◌}
use Rattle.std.specs.Bool.{then_some}
use Rattle.std.specs.Char.{is_ascii_digit}
use Rattle.std.specs.List.{prefix_len}
use Rattle.std.specs.Option.{option_or}
use Rattle.std.specs.Str.{bytes_eq}
use Rattle.script.specs.Sizes.{longest_line, largest_number, most_values, most_numbers, space, sharp, digit0}
use Rattle.script.specs.declared.Order.{Order}
use Rattle.script.specs.declared.Order.TheVariants.{Nothing, Fresh, Step, Interrupt, Burst, Registers, Set, Judge}
use Rattle.script.specs.declared.Order.TheVariants.{Put, Break, Length, Settings, Write, Save, Words, Changes, Show}

-- "Words in a line are parted by spaces": how many s begins with, and what is left behind them
unfoldable pub blanks : List ℕ → ℕ
blanks s = prefix_len (λ b. eqb b space) s

unfoldable pub skip : List ℕ → List ℕ
skip s = drop (blanks s) s

-- a word ends before a space and before a #
unfoldable pub parts : ℕ → Bool
parts b = cond (eqb b space) true (eqb b sharp)

-- how long the word is that s begins with
unfoldable pub word_len : List ℕ → ℕ
word_len s = prefix_len (λ b. not (parts b)) s

-- "# and what follows it on the line is a comment"
abbrev pub ends : List ℕ → Bool
ends [] = true
ends (b ∷ s) = eqb b sharp

unfoldable pub ended : List ℕ → Bool
ended s = ends (skip s)

-- "numbers are digits only, 0 to 65535": the number v with a character more, none where that is no digit or the number is too large
unfoldable pub more : ℕ → ℕ → Option ℕ
more v b = cond (is_ascii_digit b) (cond (ltb largest_number (v * 10 + (b - digit0))) None (Some (v * 10 + (b - digit0)))) None

unfoldable pub decimal : ℕ → List ℕ → Option ℕ
decimal v [] = Some v
decimal v (b ∷ s) = elim (more v b) [ None ↦ None | Some w ↦ decimal w s ]

-- a word as a number, which has a digit at least
abbrev pub whole_number : List ℕ → Option ℕ
whole_number [] = None
whole_number (b ∷ s) = decimal 0 (b ∷ s)

-- how many digits s begins with
unfoldable pub digits_len : List ℕ → ℕ
digits_len s = prefix_len is_ascii_digit s

-- how many numbers there are, and the numbers
pub data Read : Type 0 where
  read : Option ℕ → List ℕ → Read

-- the numbers to the end of the line, with room for n more; none where one is wrong or one too many
unfoldable pub numbers : ℕ → List ℕ → List ℕ → Read
numbers zero s v = read (then_some (ended s) most_numbers) v
numbers (suc n) s v = elim (ended s) [
  | true ↦ read (Some (most_numbers - suc n)) v
  | false ↦
      elim (whole_number (take (digits_len (skip s)) (skip s))) [
        | None ↦ read None v
        | Some x ↦ numbers n (drop (digits_len (skip s)) (skip s)) (set v (most_numbers - suc n) x)
      ]
]

-- ---- the orders, by how many numbers they have: "A line that .. has a number too many, too few .. not understood"
abbrev pub none : Order → List ℕ → Option Order
none o [] = Some o
none o (x ∷ v) = None

abbrev pub one : (ℕ → Order) → List ℕ → Option Order
one f [] = None
one f (x ∷ []) = Some (f x)
one f (x ∷ y ∷ v) = None

abbrev pub two : (ℕ → ℕ → Order) → List ℕ → Option Order
two f [] = None
two f (x ∷ []) = None
two f (x ∷ y ∷ []) = Some (f x y)
two f (x ∷ y ∷ z ∷ v) = None

-- "`interrupt K` is `interrupt K 0`"
abbrev pub interrupt : List ℕ → Option Order
interrupt (k ∷ []) = Some (Interrupt k 0)
interrupt v = two Interrupt v

-- "`set A S P Z CI LR W`"
abbrev pub registers : List ℕ → Option Order
registers (a ∷ s ∷ p ∷ z ∷ ci ∷ lr ∷ w ∷ []) = Some (Set (record { a = a; s = s; p = p; z = z; ci = ci; lr = lr; w = w }))
registers _ = None

-- "`write FILE ROOM USED BLOCK LENGTH`"
abbrev pub parts_written : List ℕ → Option Order
parts_written (f ∷ r ∷ u ∷ b ∷ l ∷ []) = Some (Write (record { file = f; room = r; used = u; block = b; length = l }))
parts_written _ = None

-- "1 to 32 values"; "`put` and `break` with no value, or with more than 32, are not understood"
abbrev pub valued : (ℕ → ℕ → Order) → List ℕ → Option Order
valued f [] = None
valued f (x ∷ v) = cond (eqb (length v) 0) None (cond (ltb most_values (length v)) None (Some (f x (length v))))

-- the nine calls. "`burst`: no number at all is the empty list; as many numbers as a line of 255 characters holds": any count of right numbers
unfoldable pub call_order : List ℕ → List ℕ → Option Order
call_order w v =
    if bytes_eq w (codes "fresh") then two Fresh v
    else (if bytes_eq w (codes "step") then none Step v
    else (if bytes_eq w (codes "interrupt") then interrupt v
    else (if bytes_eq w (codes "burst") then Some (Burst (length v))
    else (if bytes_eq w (codes "registers") then none Registers v
    else (if bytes_eq w (codes "set") then registers v
    else (if bytes_eq w (codes "judge") then none Judge v
    else (if bytes_eq w (codes "settings") then two Settings v
    else (if bytes_eq w (codes "write") then parts_written v
    else None))))))))

-- the orders that are no calls
unfoldable pub host_order : List ℕ → List ℕ → Option Order
host_order w v =
    if bytes_eq w (codes "put") then valued Put v
    else (if bytes_eq w (codes "break") then valued Break v
    else (if bytes_eq w (codes "length") then one Length v
    else (if bytes_eq w (codes "words") then two Words v
    else (if bytes_eq w (codes "changes") then none Changes v
    else (if bytes_eq w (codes "show") then none Show v
    else None)))))

-- the order with the word w and the numbers v
unfoldable pub asked : List ℕ → List ℕ → Option Order
asked w v = option_or (call_order w v) (host_order w v)

-- "`save FILE`": s is what is left behind the word of a line of n characters; one word more, and nothing behind it; where it begins and ends
unfoldable pub save : ℕ → List ℕ → Option Order
save n s = named (skip s)
  where
    named : List ℕ → Option Order
    named t =
        cond (eqb (word_len t) 0) None
        (cond (ended (drop (word_len t) t)) (Some (Save (n - length t) (n - length t + word_len t))) None)

-- ---- the line
pub data Parsed : Type 0 where
  parsed : Option Order → List ℕ → Parsed

-- the order with the word that s begins with; k is how many numbers v has, if they are right
abbrev pub counted : List ℕ → Option ℕ → List ℕ → Option Order
counted s None v = None
counted s (Some k) v = asked (take (word_len s) s) (take k v)

-- s is what is left of a line of n characters: an order's word, and what stands behind it
unfoldable pub ordered : ℕ → List ℕ → List ℕ → Parsed
ordered n s v = said (numbers most_numbers (drop (word_len s) s) v)
  where
    said : Read → Parsed
    said (read k u) = parsed (if bytes_eq (take (word_len s) s) (codes "save") then save n (drop (word_len s) s) else counted s k u) u

-- "A line of over 255 characters is not understood." "An empty line does nothing."
unfoldable pub parse : List ℕ → List ℕ → Parsed
parse s v =
    cond (ltb longest_line (length s)) (parsed None v) (cond (ends (skip s)) (parsed (Some Nothing) v) (ordered (length s) (skip s) v))
