-- Laws of the parser, a law for each way through a loop. They begin with the loop's invariant, that what is left to read decides; z is what the whole comes to.
use Rattle.std.proofs.Common.{◌≡◌, refl, sym, ap, subst, ◌∙◌, ℕ, zero, suc, ◌+◌, ◌-◌, ◌<◌, ◌≤◌, arith, add-one, Bool, true, false, cond, ltb, ltb-true}
use Rattle.std.proofs.Common.{List, [], ◌∷◌, length, get_or, set, take, drop, drop-cons, length-drop, Option, Some, None, IsUtf8, codes}
use Rattle.std.specs.Bool.{then_some}
use Rattle.std.specs.Str.{bytes_eq}
use Rattle.std.proofs.lemmas.List.{set-get_or}
use Rattle.std.proofs.lemmas.Slice.Eq.{bytes_eq-Decides}
use Rattle.std.proofs.lemmas.Str.{IsUtf8-from_ascii}
use Rattle.script.specs.Sizes.{most_numbers}
use Rattle.script.specs.Script as Script
use Rattle.script.specs.Script.{skip, ends, ended, more, decimal, whole_number, digits_len, numbers, Read}
use Rattle.script.specs.Script.{word_len, call_order, host_order, asked, counted, ordered}
use Rattle.script.specs.Script.Read.{read}
use Rattle.script.specs.Script.Parsed.{parsed}

-- ---- the digits of a word s, from the i-th on
module _ (s : List ℕ) (i v : ℕ) (z : Option ℕ) where
  pub decimal_end : decimal v (drop i s) ≡ z → length s ≤ i → Some v ≡ z
  unfolding Script.decimal
  decimal_end e h = go (drop i s) (omega (arith, length-drop i s)) e
    where
      go : (l : List ℕ) → length l ≤ 0 → decimal v l ≡ z → Some v ≡ z
      go [] o q = q
      go (b ∷ l) o q = absurd (omega arith)

  module _ (o : Option ℕ) (e : decimal v (drop i s) ≡ z) (h : i < length s) (m : o ≡ more v (get_or s i 0)) where
    pub decimal_wrong : o ≡ None → None ≡ z
    unfolding Script.decimal
    decimal_wrong n = rw (drop-cons s i 0 h, decimal, ← m, n) at e

    pub decimal_more : (w : ℕ) → o ≡ Some w → decimal w (drop (i + 1) s) ≡ z
    unfolding Script.decimal
    decimal_more w n = rw add-one (rw (drop-cons s i 0 h, decimal, ← m, n) at e)

pub ruleset decimals = (decimal_end, decimal_wrong, decimal_more)

-- ---- the numbers of what is left of a line, s, of which k are read
module _ (s v : List ℕ) (k : ℕ) (z : Read) (b : Bool) (i : numbers (most_numbers - k) s v ≡ z) where
  pub numbers_full : (o : Option ℕ) (j : ℕ) → b ≡ ended s → most_numbers ≤ k → j ≡ most_numbers → o ≡ then_some b j → read o v ≡ z
  unfolding Script.numbers
  numbers_full o j e h ej eo =
      let none_left : most_numbers - k ≡ 0 = omega arith in
      rw (eo, ej, e) (rw (none_left, numbers) at i)

  -- room is left for one more, and t is what is left behind the blanks; the number in its place stays where none is read
  module _ (t : List ℕ) (et : t ≡ skip s) (eb : b ≡ ends t) (h : k < most_numbers) where
    is_ended : b ≡ ended s
    unfolding Script.ended
    is_ended = eb ∙ ap ends et

    one_more : most_numbers - k ≡ suc (most_numbers - (k + 1))
    one_more = omega arith

    this_place : most_numbers - suc (most_numbers - (k + 1)) ≡ k
    this_place = omega arith

    pub numbers_ended : b ≡ true → read (Some k) (set v k (get_or v k 0)) ≡ z
    unfolding Script.numbers
    numbers_ended y = rw set-get_or (rw (one_more, numbers, ← is_ended, y, this_place) at i)

    module _ (f r : List ℕ) (d : ℕ) (o : Option ℕ) (n : b ≡ false) (ed : d ≡ digits_len t) (ef : f ≡ take d t) (er : r ≡ drop d t)
        (eo : o ≡ whole_number f) where
      pub numbers_wrong : (a : Option ℕ) → o ≡ None → a ≡ None → read a (set v k (get_or v k 0)) ≡ z
      unfolding Script.numbers
      numbers_wrong a w ea = rw (set-get_or, ea) (rw (one_more, numbers, ← is_ended, n, ← et, ← ed, ← ef, ← eo, w) at i)

      pub numbers_on : (x : ℕ) → o ≡ Some x → numbers (most_numbers - (k + 1)) r (set v k x) ≡ z
      unfolding Script.numbers
      numbers_on x w = rw (one_more, numbers, ← is_ended, n, ← et, ← ed, ← ef, ← eo, w, ← et, ← ed, ← er, this_place) at i

pub ruleset reads = (numbers_full, numbers_ended, numbers_wrong, numbers_on)

-- ---- a word that is no text is no order's
abbrev ascii : List ℕ → Bool
ascii [] = true
ascii (b ∷ k) = cond (ltb b 128) (ascii k) false

all_ascii : (k : List ℕ) → ascii k ≡ true → (i : ℕ) → get_or k i 0 < 128
all_ascii [] e i = omega arith
all_ascii (b ∷ k) e i = go (ltb b 128) i refl e (λ q j. all_ascii k q j)
  where
    go : (x : Bool) (i : ℕ) → ltb b 128 ≡ x → cond x (ascii k) false ≡ true → (ascii k ≡ true → (j : ℕ) → get_or k j 0 < 128) → get_or (b ∷ k) i 0 < 128
    go true zero h q a = ltb-true b 128 h
    go true (suc i) h q a = a q i
    go false i h q a = absurd (let z : false ≡ true = q in cc)

module _ (w : List ℕ) (h : IsUtf8 w → ⊥) where
  other : (k : List ℕ) → ascii k ≡ true → bytes_eq w k ≡ false
  other k u = go (bytes_eq w k) refl
    where
      go : (b : Bool) → bytes_eq w k ≡ b → b ≡ false
      go false e = refl
      go true e = absurd (h (subst IsUtf8 (sym ((bytes_eq-Decides w k).0 e)) (IsUtf8-from_ascii k (all_ascii k u))))

  pub other_save : bytes_eq w (codes "save") ≡ false
  other_save = other (codes "save") refl

  call_none : (v : List ℕ) → call_order w v ≡ None
  unfolding Script.call_order
  call_none v =
      rw (
        other (codes "fresh") refl,
        other (codes "step") refl,
        other (codes "interrupt") refl,
        other (codes "burst") refl,
        other (codes "registers") refl,
        other (codes "set") refl,
        other (codes "judge") refl,
        other (codes "settings") refl,
        other (codes "write") refl,
      )

  host_none : (v : List ℕ) → host_order w v ≡ None
  unfolding Script.host_order
  host_none v =
      rw (
        other (codes "put") refl,
        other (codes "break") refl,
        other (codes "length") refl,
        other (codes "words") refl,
        other (codes "changes") refl,
        other (codes "show") refl,
      )

  pub asked_none : (v : List ℕ) → asked w v ≡ None
  unfolding Script.asked
  asked_none v = rw (call_none v, host_none v)

-- so its line is not understood: w is the word, and r is what stands behind it
pub ordered_none : (n l : ℕ) (s v u w r : List ℕ) (k : Option ℕ) → l ≡ word_len s → w ≡ take l s → r ≡ drop l s → read k u ≡ numbers most_numbers r v
    → (IsUtf8 w → ⊥) → parsed None u ≡ ordered n s v
unfolding Script.ordered
ordered_none n l s v u w r k el ew er en h = rw (← el, ← er, ← en, ordered, ← el, ← ew, other_save w h) (go k)
  where
    go : (k : Option ℕ) → parsed None u ≡ parsed (counted s k u) u
    go None = refl
    go (Some i) = rw (← el, ← ew, asked_none w h (take i u))
