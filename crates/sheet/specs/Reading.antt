-- How the words are read, as laws: three of the head, then a site and a label where the version has them, then a group of four for each entry; and a wrong word
-- makes all wrong.
use Rattle.std.specs.Prelude.{ℕ, ◌+◌, ◌-◌, ◌/◌, ◌%◌, ◌≤◌, ◌<◌, ◌≡◌, refl, Bool, true, false, cond, eqb, length}
use Rattle.std.proofs.Common.{arith, length-append}
use mathlib.Core.List.{List, [], ◌∷◌, ◌++◌, append_assoc}
use Rattle.std.proofs.Math.ListN.{get_or-append}
use borrow.Author.Tests.{eqb-false, eq-eqb, ne_eqb, lt-ltb, le-ltb, lt-leb}
use Rattle.model.specs.Map.{a_word, word_values}
use Rattle.model.specs.Layout as Layout
use Rattle.model.specs.Layout.{entry_bytes, label_bytes, version_of, head_bytes}
use Rattle.script.specs.Sizes.{largest_number}
use Rattle.laws.specs.Fits.{head_range}
use Rattle.sheet.specs.Words as Words
use Rattle.sheet.specs.Words.{most_behind, number_of, head_of, labelled, next, behind}
use Rattle.sheet.specs.Words.Built.{wrong, built}

-- ---- "Anything else is the usage line"
pub wrong_stays : (ws : List (List ℕ)) → behind wrong ws ≡ wrong
unfolding Words.behind
wrong_stays [] = refl
wrong_stays (w ∷ ws) = wrong_stays ws

-- ---- behind the head: b has k bytes of groups
module _ (b w : List ℕ) (k : ℕ) (o : 4 ≤ length b) (e : length b ≡ head_of (version_of b) + k) (h : k < most_behind) where
  due_behind_lem : length b - head_of (version_of b) ≡ k
  due_behind_lem = omega arith

  pub byte_adds : (k % entry_bytes ≡ 3 → ⊥) → number_of w ≤ a_word → next (built b) w ≡ built (b ++ number_of w ∷ [])
  unfolding Words.due_at Words.due_behind Words.byte_taken
  byte_adds z g =
      rw (
        ne_eqb (length b) 0 (λ q. omega arith),
        le-ltb (length b) (head_of (version_of b)) (omega arith),
        due_behind_lem,
        lt-leb most_behind k h,
        ne_eqb (k % entry_bytes) 3 z,
        le-ltb a_word (number_of w) g,
      )

  pub address_adds : k % entry_bytes ≡ 3 → number_of w ≤ largest_number
      → next (built b) w ≡ built (b ++ number_of w / word_values ∷ number_of w % word_values ∷ [])
  unfolding Words.due_at Words.due_behind Words.address_taken
  address_adds z g =
      rw (
        ne_eqb (length b) 0 (λ q. omega arith),
        le-ltb (length b) (head_of (version_of b)) (omega arith),
        due_behind_lem,
        lt-leb most_behind k h,
        eq-eqb (k % entry_bytes) 3 z,
        le-ltb largest_number (number_of w) g,
      )

-- a byte more leaves the version, and the head with it
module _ (b : List ℕ) (x k : ℕ) (o : 4 ≤ length b) (e : length b ≡ head_of (version_of b) + k) where
  longer : length (b ++ x ∷ []) ≡ length b + 1
  longer = length-append b (x ∷ [])

  same_version : version_of (b ++ x ∷ []) ≡ version_of b
  same_version = get_or-append b (x ∷ []) 0 0 (omega arith)

  on : length (b ++ x ∷ []) ≡ head_of (version_of (b ++ x ∷ [])) + (k + 1)
  on = rw (longer, same_version) (omega arith)

-- "NAME PRIORITY W ADDRESS": four words behind whole groups are the five bytes of an entry
module _ (b n p w a : List ℕ) (ws : List (List ℕ)) (k : ℕ) (o : 4 ≤ length b) (e : length b ≡ head_of (version_of b) + k) (h : k < most_behind)
    (z : k % entry_bytes ≡ 0) (gn : number_of n ≤ a_word) (gp : number_of p ≤ a_word) (gw : number_of w ≤ a_word) (ga : number_of a ≤ largest_number) where
  pub group_adds : behind (built b) (n ∷ p ∷ w ∷ a ∷ ws)
      ≡ behind (built (b ++ number_of n ∷ number_of p ∷ number_of w ∷ number_of a / word_values ∷ number_of a % word_values ∷ [])) ws
  unfolding Words.behind
  group_adds =
      let b₁ = b ++ number_of n ∷ [] in
      let b₂ = b₁ ++ number_of p ∷ [] in
      let b₃ = b₂ ++ number_of w ∷ [] in
      let l₁ = longer b (number_of n) k o e in
      let e₁ = on b (number_of n) k o e in
      let l₂ = longer b₁ (number_of p) (k + 1) (omega arith) e₁ in
      let e₂ = on b₁ (number_of p) (k + 1) (omega arith) e₁ in
      let l₃ = longer b₂ (number_of w) (k + 1 + 1) (omega arith) e₂ in
      let e₃ = on b₂ (number_of w) (k + 1 + 1) (omega arith) e₂ in
      rw (
        byte_adds b n k o e h (λ q. omega arith) gn,
        byte_adds b₁ p (k + 1) (omega arith) e₁ (omega arith) (λ q. omega arith) gp,
        byte_adds b₂ w (k + 1 + 1) (omega arith) e₂ (omega arith) (λ q. omega arith) gw,
        address_adds b₃ a (k + 1 + 1 + 1) (omega arith) e₃ (omega arith) (omega arith) ga,
      ) (simp append_assoc)

-- ---- the head
head_of_least : (v : ℕ) → 4 ≤ head_of v
unfolding Words.head_of
head_of_least v = go (eqb v 0)
  where
    go : (x : Bool) → 4 ≤ cond x 4 (head_bytes v)
    go true = omega arith
    go false = (head_range v).0

module _ (v l d : List ℕ) (ws : List (List ℕ)) (gv : number_of v ≤ a_word) (gl : number_of l ≤ a_word) (gd : number_of d ≤ a_word) where
  -- "VERSION LINE DIVIDER"
  pub three_begin : behind (built []) (v ∷ l ∷ d ∷ ws) ≡ behind (built (number_of v ∷ 0 ∷ number_of l ∷ number_of d ∷ [])) ws
  unfolding Words.behind Words.due_at Words.due_in_head Words.version_taken Words.byte_taken
  three_begin =
      let m = head_of_least (number_of v) in
      rw (
        le-ltb a_word (number_of v) gv,
        lt-ltb 2 (head_of (number_of v)) (omega arith),
        le-ltb a_word (number_of l) gl,
        lt-ltb 3 (head_of (number_of v)) (omega arith),
        le-ltb a_word (number_of d) gd,
      )

module _ (v l d s : ℕ) (w : List ℕ) (ws : List (List ℕ)) where
  -- "SITE is there from version 2 on"
  pub site_adds : 4 < head_of v → number_of w ≤ a_word → behind (built (v ∷ 0 ∷ l ∷ d ∷ [])) (w ∷ ws) ≡ behind (built (v ∷ 0 ∷ l ∷ d ∷ number_of w ∷ [])) ws
  unfolding Words.behind Words.due_at Words.due_in_head Words.byte_taken
  site_adds h g = rw (lt-ltb 4 (head_of v) h, le-ltb a_word (number_of w) g)

  -- "LABEL from version 3 on"
  pub label_adds : 5 < head_of v → length w ≤ label_bytes
      → behind (built (v ∷ 0 ∷ l ∷ d ∷ s ∷ [])) (w ∷ ws) ≡ behind (built (v ∷ 0 ∷ l ∷ d ∷ s ∷ labelled w)) ws
  unfolding Words.behind Words.due_at Words.due_in_head Words.label_taken
  label_adds h g = rw (lt-ltb 5 (head_of v) h, le-ltb label_bytes (length w) g)

-- which versions have which: "a version over 3 has both, 0 none"
pub head_bare : (v : ℕ) → v < 2 → head_of v ≡ 4
unfolding Words.head_of Layout.head_bytes
head_bare v h = go (eqb v 0) refl
  where
    go : (x : Bool) → eqb v 0 ≡ x → cond x 4 (head_bytes v) ≡ 4
    go true e = refl
    go false e = let z = eqb-false v 0 e in rw (eq-eqb v 1 (omega (arith, z)))

pub head_sited : head_of 2 ≡ 5
unfolding Words.head_of Layout.head_bytes
head_sited = refl

pub head_labelled : (v : ℕ) → 3 ≤ v → head_of v ≡ 17
unfolding Words.head_of Layout.head_bytes
head_labelled v h = rw (ne_eqb v 0 (λ z. omega arith), ne_eqb v 1 (λ z. omega arith), ne_eqb v 2 (λ z. omega arith))
