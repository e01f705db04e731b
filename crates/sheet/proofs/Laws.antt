-- Laws of the words that build a block, a law for each way through the code. b are the bytes of the block before a step, b₁ and b₂ behind it.
use Prim.Native.Nat.{ℕ, zero, suc, ◌+◌, ◌-◌, ◌/◌, ◌%◌, ◌≤◌, ◌<◌}
use mathlib.Core.Path.{◌≡◌, refl, sym, ap, ◌∙◌}
use mathlib.Core.Bool.{Bool, true, false, cond}
use mathlib.Core.List.{List, [], ◌∷◌, ◌++◌, append_assoc}
use lib.Dec.{eqb, ltb, leb}
use lib.ListN.{length, get_or, set, take, drop, replicate, length-set, length-append, length-replicate}
use lib.Seq.{length-take-le, take-length}
use borrow.Author.Tests.{eqb-true, eq-eqb, ne_eqb, ltb-true, ltb-false, lt-ltb, le-ltb, leb-false, le-leb, lt-leb}
use native.Mathlib.Numerals.{unary_clauses}
use native.Mathlib.Omega.{arith}
use Rattle.std.specs.Prelude.{Option, None, Some, Result, Ok}
use Rattle.std.specs.Int.{w16, to_be_bytes}
use Rattle.std.specs.List.{refill}
use Rattle.std.proofs.lemmas.List.{take-append-le}
use Rattle.std.proofs.lemmas.Slice.Eq.{slice_eq-Decides}
use Rattle.std.proofs.lemmas.Bool.Decides.{Decides-eqb}
use lib.Pointwise.{pointwise}
use Rattle.model.specs.declared.refusal.Refusal.{Refusal}
use Rattle.model.specs.Coded as Coded
use Rattle.model.specs.Coded.{fit_told, writing_told}
use Rattle.model.specs.Told.{Fit}
use Rattle.model.specs.Told.Fit.{Good, Refused, RefusedAt}
use Rattle.model.specs.Told.{Writing}
use Rattle.model.specs.Answer.{no_room}
use Rattle.model.specs.Answer.Outcome.{gives}
use Rattle.model.specs.Map.{a_word, word_values}
use Rattle.model.specs.Layout as Layout
use Rattle.model.specs.Layout.{entry_bytes, label_place, label_bytes, version_of, head_bytes, of_block, of_file, is_good}
use Rattle.model.specs.Settings as Settings
use Rattle.model.specs.Settings.{new_length, worse, of_used, heeds_both, write_settings}
use Rattle.laws.specs.Fits.{head_range}
use Rattle.script.specs.Sizes.{largest_number}
use Rattle.script.specs.Script.{whole_number}
use Rattle.sheet.specs.declared.building.Due.{Due}
use Rattle.sheet.specs.declared.building.Due.TheVariants.{Version, Byte, Label, Address}
use Rattle.sheet.specs.Words as Words
use Rattle.sheet.specs.Words.{most_groups, most_behind, block_room, number_of, head_of, due_behind, due_in_head, due_at, dash, letters, labelled}
use Rattle.sheet.specs.Words.{byte_taken, version_taken, address_taken, label_taken, taken, next, counted, ended, finished}
use Rattle.sheet.specs.Words.{Built}
use Rattle.sheet.specs.Words.Built.{wrong, built}

-- ---- a word as a number
pub number_some : (w : List ℕ) (x : ℕ) → Some x ≡ whole_number w → x ≡ number_of w
unfolding Words.number_of
number_some w x e = rw (← e)

pub number_none : (w : List ℕ) → None ≡ whole_number w → largest_number < number_of w
unfolding Words.number_of
number_none w e = rw (← e) (omega arith)

-- ---- what the next word is
pub head_none : (v : ℕ) → v ≡ 0 → 4 ≡ head_of v
unfolding Words.head_of
head_none v h = rw (eq-eqb v 0 h)

pub head_some : (v r : ℕ) → (v ≡ 0 → ⊥) → r ≡ head_bytes v → r ≡ head_of v
unfolding Words.head_of
head_some v r h e = rw (ne_eqb v 0 h) e

pub due_first : (v n : ℕ) → n ≡ 0 → Some Version ≡ due_at v n
unfolding Words.due_at
due_first v n z = rw (eq-eqb n 0 z)

module _ (v n h : ℕ) (z : n ≡ 0 → ⊥) (e : h ≡ head_of v) where
  pub due_head : (d : Due) → n < h → d ≡ due_in_head n → Some d ≡ due_at v n
  unfolding Words.due_at
  due_head d l ed = rw (ne_eqb n 0 z, ← e, lt-ltb n h l) (ap Some ed)

  pub due_groups : (d : Option Due) → h ≤ n → d ≡ due_behind (n - h) → d ≡ due_at v n
  unfolding Words.due_at
  due_groups d l ed = rw (ne_eqb n 0 z, ← e, le-ltb n h l) ed

pub ruleset numbering = (number_some, number_none, head_none, head_some, due_first, due_head, due_groups)

-- ---- what a word w adds to the bytes b: x is its number
module _ (b w : List ℕ) where
  pub byte_wrong : a_word < number_of w → wrong ≡ byte_taken b w
  unfolding Words.byte_taken
  byte_wrong h = rw (lt-ltb a_word (number_of w) h)

  pub version_wrong : a_word < number_of w → wrong ≡ version_taken w
  unfolding Words.version_taken
  version_wrong h = rw (lt-ltb a_word (number_of w) h)

  pub address_wrong : largest_number < number_of w → wrong ≡ address_taken b w
  unfolding Words.address_taken
  address_wrong h = rw (lt-ltb largest_number (number_of w) h)

module _ (b b₁ b₂ w : List ℕ) (x : ℕ) (ex : x ≡ number_of w) where
  pub byte_more : x ≤ a_word → b₁ ≡ b ++ x ∷ [] → built b₁ ≡ byte_taken b w
  unfolding Words.byte_taken
  byte_more g e = rw (← ex, le-ltb a_word x g, e)

  pub version_more : x ≤ a_word → b ≡ [] → b₁ ≡ b ++ x ∷ [] → b₂ ≡ b₁ ++ 0 ∷ [] → built b₂ ≡ version_taken w
  unfolding Words.version_taken
  version_more g z e e₂ = rw (← ex, le-ltb a_word x g, e₂, e, z)

  pub address_more : (h l : ℕ) (bs : List ℕ) → x ≤ largest_number → bs ≡ to_be_bytes w16 x → h ≡ get_or bs 0 0 → l ≡ get_or bs 1 0 → b₁ ≡ b ++ h ∷ []
      → b₂ ≡ b₁ ++ l ∷ [] → built b₂ ≡ address_taken b w
  unfolding Words.address_taken
  address_more h l bs g es eh el e e₂ =
      let eh' : h ≡ x / word_values = omega (arith, rw es at eh) in
      let el' : l ≡ x % word_values = rw es at el in
      rw (← ex, le-ltb largest_number x g, e₂, e, eh', el') (ap built (append_assoc b (x / word_values ∷ []) (x % word_values ∷ [])))

pub ruleset bytes = (byte_wrong, version_wrong, address_wrong, byte_more, version_more, address_more)

-- ---- the label: its letters, and zeros to the end
drop_zeros : (k n : ℕ) → drop {A = ℕ} k (replicate n 0) ≡ replicate (n - k) 0
drop_zeros zero n = simp unary_clauses
drop_zeros (suc k) zero = let z : 0 - suc k ≡ 0 = omega arith in rw z
drop_zeros (suc k) (suc n) = simp unary_clauses (drop_zeros k n)

letters_most : (w : List ℕ) → letters w ≤ length w
unfolding Words.letters
letters_most w = go (eqb (length w) 1) (eqb (get_or w 0 0) dash)
  where
    go : (x y : Bool) → cond x (cond y 0 (length w)) (length w) ≤ length w
    go true true = omega arith
    go true false = omega arith
    go false y = omega arith

pub twelve : (w : List ℕ) → length w ≤ label_bytes → length (labelled w) ≡ label_bytes
unfolding Words.labelled
twelve w h =
    let k = letters w in
    let m = letters_most w in
    let a = length-take-le k w m in
    let b : length (replicate {A = ℕ} (label_bytes - k) 0) ≡ label_bytes - k = length-replicate (label_bytes - k) 0 in
    omega (arith, length-append (take k w) (replicate (label_bytes - k) 0))

module _ (b w : List ℕ) where
  pub label_wrong : label_bytes < length w → wrong ≡ label_taken b w
  unfolding Words.label_taken
  label_wrong h = rw (lt-ltb label_bytes (length w) h)

  pub label_more : (b₁ p : List ℕ) → length w ≤ label_bytes → p ≡ labelled w → b₁ ≡ b ++ p → built b₁ ≡ label_taken b w
  unfolding Words.label_taken
  label_more b₁ p h ep e = rw (le-ltb label_bytes (length w) h, e, ep)

pub label_laid : (w p : List ℕ) (k : ℕ) → k ≡ letters w → p ≡ take k w → p ++ drop k (replicate label_bytes 0) ≡ labelled w
unfolding Words.labelled
label_laid w p k ek ep = rw (ep, ek, drop_zeros (letters w) label_bytes) refl

pub letters_none : (w : List ℕ) → true ≡ pointwise eqb w (dash ∷ []) → (0 ≡ letters w) × (0 ≤ length w)
unfolding Words.letters
letters_none w h = (rw ((slice_eq-Decides Decides-eqb w (dash ∷ []) _ refl).0 (sym h)), omega arith)

pub letters_some : (w : List ℕ) → (w ≡ dash ∷ [] → ⊥) → length w ≡ letters w
unfolding Words.letters
letters_some [] h = refl
letters_some (x ∷ []) h = rw (ne_eqb x dash (λ z. h (rw z)))
letters_some (x ∷ y ∷ w) h = rw (ne_eqb (length (x ∷ y ∷ w)) 1 (λ z. omega (arith, z)))

pub ruleset laying = (label_wrong, label_more, label_laid, twelve, letters_none, letters_some)

-- ---- what was written stands in the buffer
written_fits : (l l₁ b : List ℕ) (u n : ℕ) (r : Writing) → gives r l₁ ≡ write_settings l u b → r ≡ Writing.Written n → length l₁ ≡ length l → n ≤ length l₁
unfolding Settings.write_settings Settings.writes
written_fits l l₁ b u n r e z long = go (ltb (length l) u) (worse (of_used (take u l)) (of_block b)) (ltb (length l) (new_length u b)) refl (rw z at e)
  where
    go : (x : Bool) (f : Fit) (y : Bool) → ltb (length l) (new_length u b) ≡ y
        → gives (Writing.Written n) l₁ ≡ cond x (gives (Writing.Refused no_room) l) (heeds_both f l u b) → n ≤ length l₁
    go true f y ey q = let z : ◌≡◌ {A = ℕ} 0 1 = cc in absurd (omega arith)
    go false (Refused k) y ey q = let z : ◌≡◌ {A = ℕ} 0 1 = cc in absurd (omega arith)
    go false (RefusedAt k v) y ey q = let z : ◌≡◌ {A = ℕ} 0 1 = cc in absurd (omega arith)
    go false Good true ey q = let c = rw ey at q in let z : ◌≡◌ {A = ℕ} 0 1 = cc in absurd (omega arith)
    go false Good false ey q =
        let c = rw ey at q in
        let m : n ≡ new_length u b = cc in
        omega (arith, ltb-false (length l) (new_length u b) ey)

pub written_ok : (l l₁ b : List ℕ) (u n : ℕ) (r : Result ℕ Refusal) → gives (writing_told r) l₁ ≡ write_settings l u b → r ≡ Ok n → length l₁ ≡ length l
    → n ≤ length l₁
unfolding Coded.writing_told
written_ok l l₁ b u n r e z long = written_fits l l₁ b u n (writing_told r) e (rw z refl) long

pub counts_is : (l : List ℕ) (n : ℕ) → n ≤ length l → n ≡ length (take n l)
counts_is l n h = sym (length-take-le n l h)

pub file_good : (f : List ℕ) (u : Unit {0}) → fit_told (Ok u) ≡ of_file f → is_good (of_file f) ≡ true
unfolding Layout.is_good Coded.fit_told
file_good f u e = rw (← e) refl

pub ruleset files = (written_ok, counts_is, file_good)

-- ---- the next word: v is the block's first byte, n how many it has, d what the word is
head_of_most : (v : ℕ) → head_of v ≤ 17
unfolding Words.head_of
head_of_most v = go (eqb v 0)
  where
    go : (x : Bool) → cond x 4 (head_bytes v) ≤ 17
    go true = omega arith
    go false = (head_range v).1

-- of a group, so many bytes are there
behind_byte : (k : ℕ) → Some Byte ≡ due_behind k → k < most_behind
unfolding Words.due_behind
behind_byte k h = go (leb most_behind k) refl h
  where
    go : (x : Bool) → leb most_behind k ≡ x → Some Byte ≡ cond x None (Some (cond (eqb (k % entry_bytes) 3) Address Byte)) → k < most_behind
    go true e q = let z : ◌≡◌ {A = ℕ} 0 1 = cc in absurd (omega arith)
    go false e q = leb-false most_behind k e

behind_address : (k : ℕ) → Some Address ≡ due_behind k → k + 2 ≤ most_behind
unfolding Words.due_behind
behind_address k h = go (leb most_behind k) (eqb (k % entry_bytes) 3) refl refl h
  where
    go : (x y : Bool) → leb most_behind k ≡ x → eqb (k % entry_bytes) 3 ≡ y → Some Address ≡ cond x None (Some (cond y Address Byte)) → k + 2 ≤ most_behind
    go true y e f q = let z : ◌≡◌ {A = ℕ} 0 1 = cc in absurd (omega arith)
    go false true e f q = let a = leb-false most_behind k e in let b = eqb-true (k % entry_bytes) 3 f in omega arith
    go false false e f q = let z : ◌≡◌ {A = ℕ} 0 1 = cc in absurd (omega arith)

behind_not : (k : ℕ) (d : Due) → (d ≡ Byte → ⊥) → (d ≡ Address → ⊥) → Some d ≡ due_behind k → ⊥
unfolding Words.due_behind
behind_not k d nb na h = go (leb most_behind k) (eqb (k % entry_bytes) 3) h
  where
    go : (x y : Bool) → Some d ≡ cond x None (Some (cond y Address Byte)) → ⊥
    go true y q = cc
    go false true q = na cc
    go false false q = nb cc

module _ (v n : ℕ) (d : Due) (e : Some d ≡ due_at v n) where
  -- in the head so far, or behind it
  placed : (n < 17 → ⊥) → Some d ≡ due_behind (n - head_of v)
  unfolding Words.due_at
  placed o =
      let m = head_of_most v in
      rw (ne_eqb n 0 (λ z. o (omega arith)), le-ltb n (head_of v) (omega (arith, o))) at e

  -- what is due has room
  pub byte_room : d ≡ Byte → n < block_room
  byte_room h = go (ltb n 17) refl
    where
      go : (x : Bool) → ltb n 17 ≡ x → n < block_room
      go true t = let u = ltb-true n 17 t in omega arith
      go false t =
          let u = ltb-false n 17 t in
          let m = head_of_most v in
          let k = behind_byte (n - head_of v) (ap Some (sym h) ∙ placed (λ z. omega arith)) in
          omega arith

  pub address_room : d ≡ Address → n + 2 ≤ block_room
  address_room h = go (ltb n 17) refl
    where
      go : (x : Bool) → ltb n 17 ≡ x → n + 2 ≤ block_room
      go true t = let u = ltb-true n 17 t in omega arith
      go false t =
          let u = ltb-false n 17 t in
          let m = head_of_most v in
          let k = behind_address (n - head_of v) (ap Some (sym h) ∙ placed (λ z. omega arith)) in
          omega arith

  pub label_room : d ≡ Label → n + label_bytes ≤ block_room
  label_room h = go (ltb n 17) refl
    where
      go : (x : Bool) → ltb n 17 ≡ x → n + label_bytes ≤ block_room
      go true t = let u = ltb-true n 17 t in omega arith
      go false t =
          let u = ltb-false n 17 t in
          absurd (behind_not (n - head_of v) d (λ z. let q : Label ≡ Byte = sym h ∙ z in cc) (λ z. let q : Label ≡ Address = sym h ∙ z in cc) (placed (λ z. omega arith)))

module _ (b b₁ w : List ℕ) (v n : ℕ) (d : Option Due) (r : Built) (ev : v ≡ version_of b) (en : n ≡ length b) (e : d ≡ due_at v n) where
  next_is : next (built b) w ≡ taken d b w
  next_is = rw (← ev, ← en, ← e)

  pub next_version : d ≡ Some Version → r ≡ version_taken w → r ≡ next (built b) w
  next_version z q = q ∙ sym (rw z at next_is)

  pub next_byte : d ≡ Some Byte → r ≡ byte_taken b w → r ≡ next (built b) w
  next_byte z q = q ∙ sym (rw z at next_is)

  pub next_label : d ≡ Some Label → r ≡ label_taken b w → r ≡ next (built b) w
  next_label z q = q ∙ sym (rw z at next_is)

  pub next_address : d ≡ Some Address → r ≡ address_taken b w → r ≡ next (built b) w
  next_address z q = q ∙ sym (rw z at next_is)

  pub next_nothing : d ≡ None → wrong ≡ next (built b) w
  next_nothing z = sym (rw z at next_is)

-- the version is due where nothing is there
not_version : (k : ℕ) → Some Version ≡ due_behind k → ⊥
not_version k = behind_not k Version (λ z. cc) (λ z. cc)

pub version_first : (b : List ℕ) (v : ℕ) (d : Due) → Some d ≡ due_at v (length b) → d ≡ Version → b ≡ []
unfolding Words.due_at Words.due_in_head
version_first [] v d e z = refl
version_first (x ∷ b) v d e z =
    let n = length (x ∷ b) in
    let q = ap Some (sym z) ∙ rw (ne_eqb n 0 (λ o. omega (arith, o))) at e in
    absurd (go (ltb n (head_of v)) (eqb n label_place) (due_behind (n - head_of v)) (not_version (n - head_of v)) q)
  where
    go : (p q : Bool) (r : Option Due) → (Some Version ≡ r → ⊥) → Some Version ≡ cond p (Some (cond q Label Byte)) r → ⊥
    go true true r o h = cc
    go true false r o h = cc
    go false q r o h = o h

pub ruleset nexts = (version_first, byte_room, address_room, label_room, next_version, next_byte, next_label, next_address, next_nothing)

-- what is written in place is the block with that byte set
set_in_place : (b : List ℕ) (k : ℕ) → refill (length b) b (set b 1 k) ≡ set b 1 k
set_in_place b k =
    let l : length (set b 1 k) ≡ length b = length-set b 1 k in
    take-append-le (length b) (set b 1 k) (drop (length (set b 1 k)) b) (omega (arith, l)) ∙ rw (← l) (take-length (set b 1 k))

-- ---- no word is left: k is the number of groups in n bytes
module _ (b b₁ : List ℕ) (n : ℕ) where
  pub groups_many : most_groups < n / entry_bytes → wrong ≡ counted b n
  unfolding Words.counted
  groups_many h = rw (lt-ltb most_groups (n / entry_bytes) h)

  pub groups_part : n / entry_bytes ≤ most_groups → (n % entry_bytes ≡ 0 → ⊥) → wrong ≡ counted b n
  unfolding Words.counted
  groups_part h z = rw (le-ltb most_groups (n / entry_bytes) h, ne_eqb (n % entry_bytes) 0 z)

  pub groups_whole : (k : ℕ) (s : List ℕ) → k ≡ n / entry_bytes → k ≤ most_groups → n % entry_bytes ≡ 0 → s ≡ b → b₁ ≡ refill (length b) b (set s 1 k)
      → built b₁ ≡ counted b n
  unfolding Words.counted
  groups_whole k s ek h z es e = rw (← ek, le-ltb most_groups k h, eq-eqb (n % entry_bytes) 0 z, e, es) (ap built (set_in_place b k))

module _ (b : List ℕ) (v h n : ℕ) (ev : v ≡ version_of b) (eh : h ≡ head_of v) (en : n ≡ length b) where
  pub finish_short : n < h → wrong ≡ finished (built b)
  unfolding Words.ended
  finish_short t = rw (← ev, ← eh, ← en, lt-ltb n h t)

  pub finish_groups : (r : Built) → h ≤ n → r ≡ counted b (n - h) → r ≡ finished (built b)
  unfolding Words.ended
  finish_groups r t q = rw (← ev, ← eh, ← en, le-ltb n h t) q

pub ruleset endings = (groups_many, groups_part, groups_whole, finish_short, finish_groups)

-- How a test in code is answered.
pub ruleset tests = (lt-ltb, le-ltb, le-leb, lt-leb, eq-eqb, ne_eqb)
