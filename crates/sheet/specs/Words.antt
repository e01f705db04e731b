-- What the words behind FILE build: "VERSION LINE DIVIDER [SITE [LABEL]] NAME PRIORITY W ADDRESS ..". A word is a list of bytes, w; b are the bytes of the
-- block that the words before it have built. The number of entries stands there as 0 until the last word is taken.
use Rattle.std.specs.Prelude.{ℕ, ◌-◌, ◌/◌, ◌%◌, cond, List, [], ◌∷◌, ◌++◌, eqb, ltb, leb, length, get_or, set, take, replicate, Option, None, Some, Result, Ok, Err}
use Rattle.model.specs.Map.{a_word, word_values}
use Rattle.model.specs.Layout.{entry_bytes, label_place, label_bytes, version_of, head_bytes}
use Rattle.script.specs.Sizes.{largest_number}
use Rattle.script.specs.Script.{whole_number}
use Rattle.sheet.specs.declared.building.Due.{Due}
use Rattle.sheet.specs.declared.building.Due.TheVariants.{Version, Byte, Label, Address}

-- "none to 255 groups of four"; what a block of so many is at most, and what they have of it
abbrev pub most_groups : ℕ
most_groups = 255

abbrev pub most_behind : ℕ
most_behind = 1275

abbrev pub block_room : ℕ
block_room = 1292

-- ---- "Numbers are digits": a word as a number; no_number where it has none, another character, or is over 65535
abbrev pub no_number : ℕ
no_number = 65536

abbrev pub or_no_number : Option ℕ → ℕ
or_no_number None = no_number
or_no_number (Some x) = x

unfoldable pub number_of : List ℕ → ℕ
number_of w = or_no_number (whole_number w)

-- ---- what the next word is, if there is room for one: v is the version, n the number of bytes that are there
-- "SITE is there from version 2 on, LABEL from version 3 on (a version over 3 has both, 0 none ..)"
unfoldable pub head_of : ℕ → ℕ
head_of v = cond (eqb v 0) 4 (head_bytes v)

-- of the groups n bytes are there: name, priority and W are a byte each, then comes the address
unfoldable pub due_behind : ℕ → Option Due
due_behind n = cond (leb most_behind n) None (Some (cond (eqb (n % entry_bytes) 3) Address Byte))

unfoldable pub due_in_head : ℕ → Due
due_in_head n = cond (eqb n label_place) Label Byte

unfoldable pub due_at : ℕ → ℕ → Option Due
due_at v n = cond (eqb n 0) (Some Version) (cond (ltb n (head_of v)) (Some (due_in_head n)) (due_behind (n - head_of v)))

-- ---- what a word adds: "Anything else is the usage line"
pub data Built : Type 0 where
  wrong : Built
  built : List ℕ → Built

-- "0-255"
unfoldable pub byte_taken : List ℕ → List ℕ → Built
byte_taken b w = cond (ltb a_word (number_of w)) wrong (built (b ++ number_of w ∷ []))

unfoldable pub version_taken : List ℕ → Built
version_taken w = cond (ltb a_word (number_of w)) wrong (built (number_of w ∷ 0 ∷ []))

-- "an address 0-65535", high byte first
unfoldable pub address_taken : List ℕ → List ℕ → Built
address_taken b w = cond (ltb largest_number (number_of w)) wrong (built (b ++ number_of w / word_values ∷ number_of w % word_values ∷ []))

-- "a label has at most 12 bytes"; "`-` or an empty word for no letters"; then zeros to its end
abbrev pub dash : ℕ
dash = 45

unfoldable pub letters : List ℕ → ℕ
letters w = cond (eqb (length w) 1) (cond (eqb (get_or w 0 0) dash) 0 (length w)) (length w)

unfoldable pub labelled : List ℕ → List ℕ
labelled w = take (letters w) w ++ replicate (label_bytes - letters w) 0

unfoldable pub label_taken : List ℕ → List ℕ → Built
label_taken b w = cond (ltb label_bytes (length w)) wrong (built (b ++ labelled w))

abbrev pub taken : Option Due → List ℕ → List ℕ → Built
taken None b w = wrong
taken (Some Version) b w = version_taken w
taken (Some Byte) b w = byte_taken b w
taken (Some Label) b w = label_taken b w
taken (Some Address) b w = address_taken b w

abbrev pub next : Built → List ℕ → Built
next wrong w = wrong
next (built b) w = taken (due_at (version_of b) (length b)) b w

-- ---- no word is left: the head must be whole and so must the last group, and the number of groups goes to its place; n is how many bytes they have
unfoldable pub counted : List ℕ → ℕ → Built
counted b n =
    cond (ltb most_groups (n / entry_bytes)) wrong
    (cond (eqb (n % entry_bytes) 0) (built (set b 1 (n / entry_bytes))) wrong)

unfoldable pub ended : List ℕ → Built
ended b = cond (ltb (length b) (head_of (version_of b))) wrong (counted b (length b - head_of (version_of b)))

abbrev pub finished : Built → Built
finished wrong = wrong
finished (built b) = ended b

-- ---- the block that the words build
unfoldable pub behind : Built → List (List ℕ) → Built
behind r [] = finished r
behind r (w ∷ ws) = behind (next r w) ws

abbrev pub block_of : List (List ℕ) → Built
block_of ws = behind (built []) ws

-- what a step comes to, behind which the block has the bytes b; an error stands for words that build no block
abbrev pub stands : {A E : Type 0} → Result A E → List ℕ → Built
stands (Ok x) b = built b
stands (Err e) b = wrong
