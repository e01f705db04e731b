-- The pages seen in lists, as bits of one number: bit x - 236 for the control page x. None: a page was no control page, or came twice. A list
-- that does not end has a page twice.
use Rattle.std.specs.Prelude.{ℕ, ◌+◌, ◌-◌, ◌/◌, ◌%◌, ◌^◌, Bool, cond, List, [], ◌∷◌, eqb, Option, Some, None, is_some, filter}
use Rattle.std.specs.Option.{option_and_then}
use Rattle.model.specs.Map.{upper, lower, label, first_control, last_control, last_name, last_priority}
use Rattle.model.specs.Rule.{Rule, among, both, holds}
use Rattle.model.specs.Lists.{Lists}
use Rattle.model.specs.Bytes.{Memory, word, name}

abbrev pub all_pages : ℕ
all_pages = 1048575

-- a control page
unfoldable pub is_page : ℕ → Bool
is_page x = holds (among x first_control last_control)

-- page z is among the pages b: 1, or 0
unfoldable pub has : ℕ → ℕ → ℕ
has b z = b / 2 ^ (z - first_control) % 2

-- with the page x
unfoldable pub see : ℕ → ℕ → Option ℕ
see b x = cond (is_page x) (cond (eqb (has b x) 1) None (Some (b + 2 ^ (x - first_control)))) None

-- with what f adds for each of a list, one after the other
unfoldable pub onward : (ℕ → ℕ → Option ℕ) → ℕ → List ℕ → Option ℕ
onward f b [] = Some b
onward f b (x ∷ xs) = option_and_then (λ c. onward f c xs) (f b x)

-- with the pages of a list
abbrev pub see_all : ℕ → List ℕ → Option ℕ
see_all b xs = onward see b xs

-- with the lists of the heads hs
abbrev pub see_lists : Lists → ℕ → List ℕ → Option ℕ
see_lists L b hs = onward (λ c a. see_all c (L a)) b hs

-- with those of the pages ps for which f is 1
abbrev pub flags : (ℕ → ℕ) → ℕ → List ℕ → Option ℕ
flags f b ps = see_all b (filter (λ p. eqb (f p) 1) ps)

-- a label with a name and a priority of 1-15
unfoldable pub titled_by : ℕ → Rule
titled_by l = both (among (lower l) 1 last_name) (among (upper l) 1 last_priority)

abbrev pub titled : Memory → ℕ → Rule
titled m p = titled_by (word m p label)

-- with the name of p, which stands as page 236 + n, if its label is good; and whether those of ps are good and differ
unfoldable pub with_name : Memory → ℕ → ℕ → Option ℕ
with_name m b p = cond (holds (titled m p)) (see b (first_control + name m p)) None

abbrev pub named : Memory → ℕ → List ℕ → Bool
named m b ps = is_some (onward (with_name m) b ps)
