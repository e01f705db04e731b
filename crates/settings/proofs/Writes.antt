-- What the writing of settings rests on.
use Rattle.std.proofs.Common.{◌≡◌, refl, sym, ap, ◌∙◌, ℕ, ◌+◌, ◌-◌, ◌/◌, ◌%◌, ◌≤◌, ◌<◌, Bool, true, false, Ok, Err, List, [], ◌∷◌, ◌++◌, append_assoc}
use Rattle.std.proofs.Common.{length, get_or, take, drop, arith, ltb, lt-ltb, le-ltb, ltb-false}
use Rattle.std.proofs.lemmas.Slice.{take-put_mid, drop-put_mid}
use Rattle.std.proofs.Math.Seq.{drop-drop}
use Rattle.std.specs.Int.{to_be_bytes, w16}
use borrow.Rule.Slice.PartMut.{put_mid}
use Rattle.model.specs.declared.refusal.Refusal.{Refusal}
use Rattle.model.specs.Told.{Fit, Writing}
use Rattle.model.specs.Told.Fit.{Good}
use Rattle.model.specs.Answer.Outcome.{gives}
use Rattle.model.specs.Coded as Coded
use Rattle.model.specs.Coded.{fit_told, writing_told}
use Rattle.model.specs.Layout.{of_block}
use Rattle.model.specs.Settings as Settings
use Rattle.model.specs.Settings.{trailer_for, place_for, new_length, written, weight, worse, of_used, writes, heeds_both, write_settings}
use Rattle.laws.specs.Fits.{Laid, laid_least, laid_most, block_of, block_each}

-- the trailer of a block: n is its length in two bytes
pub trailer_is : (b n : List ℕ) → length b ≤ 255 → n ≡ to_be_bytes w16 (length b)
    → get_or n 0 0 ∷ get_or n 1 0 ∷ get_or b 0 0 ∷ get_or b 1 0 ∷ [] ≡ trailer_for b
unfolding Settings.trailer_for
trailer_is b n h e =
    let q : length b / 256 % 256 ≡ length b / 256 = omega arith in
    rw (e, q)

four_bytes : (b : List ℕ) → length (trailer_for b) ≡ 4
unfolding Settings.trailer_for
four_bytes b = refl

-- ---- the block, then its trailer: p is the place
module _ (l b : List ℕ) (used p : ℕ) (ep : p ≡ place_for used) where
  pub no_room_lem : length l < p + length b + 4 → gives (writing_told (Err Refusal.NoRoom)) l ≡ writes l used b
  unfolding Settings.writes Coded.writing_told Coded.refusal
  no_room_lem h = rw (lt-ltb (length l) (new_length used b) (omega (arith, ep)))

  -- s and t are the bytes of the block and of the trailer
  pub written_is : (s t : List ℕ) → p + length b + 4 ≤ length l → s ≡ b → t ≡ trailer_for b
      → gives (writing_told (Ok (p + length b + 4))) (put_mid (p + length b) (p + length b + 4 - (p + length b)) (put_mid p (p + length b - p) l s) t)
      ≡ writes l used b
  unfolding Settings.writes Settings.written Coded.writing_told
  written_is s t h es et =
      let n = p + length b in
      let l₁ = put_mid p (n - p) l s in
      let long : length s ≡ n - p = ap length es ∙ (omega arith) in
      let before : take n l₁ ≡ take p l ++ s = take-put_mid p (n - p) l s n (omega (arith, ap length es)) (omega arith) in
      let behind : drop (n + 4 - n) (drop n l₁) ≡ drop (n + 4) l =
      drop-drop (n + 4 - n) n l₁ ∙ ap (λ k. drop k l₁) (omega arith) ∙ drop-put_mid p (n - p) l s (n + 4) (omega arith) (omega arith) long in
      let all : put_mid n (n + 4 - n) l₁ t ≡ take p l ++ b ++ trailer_for b ++ drop (n + 4) l =
      ap (λ x. x ++ (t ++ drop (n + 4 - n) (drop n l₁))) before
      ∙ ap (λ x. (take p l ++ s) ++ (t ++ x)) behind
      ∙ sym (append_assoc (take p l ++ s) t (drop (n + 4) l))
      ∙ ap (λ x. take p l ++ x ++ t ++ drop (n + 4) l) es
      ∙ ap (λ x. take p l ++ b ++ x ++ drop (n + 4) l) et in
      rw (le-ltb (length l) (new_length used b) (omega (arith, ep)), ← ep) (ap (λ x. gives (Writing.Written (n + 4)) x) all)

-- ---- the verdict of both
-- what refuses has a number
heavy : (b : List ℕ) → weight (of_block b) ≡ 0 → of_block b ≡ Good
unfolding Settings.weight
heavy = block_each (λ v. weight v ≡ 0 → v ≡ Good) (λ h. refl) (λ h. absurd (omega arith)) (λ h. absurd (omega arith)) (λ v h. absurd (omega arith))

worse_good : (u o : Fit) → worse u o ≡ Good → weight o ≡ 0
unfolding Settings.worse Settings.weight
worse_good u o h = go (ltb (weight u) (weight o)) refl
  where
    go : (x : Bool) → ltb (weight u) (weight o) ≡ x → weight o ≡ 0
    go true e = let c : o ≡ Good = rw e at h in ap weight c
    go false e = let c : u ≡ Good = rw e at h in let l = ltb-false (weight u) (weight o) e in omega (arith, ap weight c)

-- u is the verdict of the file
both_laid : (v : Unit {0}) (u : Fit) (b : List ℕ) → fit_told (Ok v) ≡ worse u (of_block b) → Laid b
unfolding Coded.fit_told
both_laid v u b e = (block_of b (heavy b (worse_good u (of_block b) (sym e)))).laid

pub good_least : (v : Unit {0}) (u : Fit) (b : List ℕ) → fit_told (Ok v) ≡ worse u (of_block b) → 2 ≤ length b
good_least v u b e = let t = laid_least b (both_laid v u b e) in omega arith

pub good_most : (v : Unit {0}) (u : Fit) (b : List ℕ) → fit_told (Ok v) ≡ worse u (of_block b) → length b ≤ 255
good_most v u b e = let t = laid_most b (both_laid v u b e) in omega arith

-- what a refusal is said to be, of the verdict and of the writing
told_alike : (e : Refusal) (l b : List ℕ) (used : ℕ) → gives (writing_told (Err e)) l ≡ heeds_both (fit_told (Err e)) l used b
unfolding Coded.writing_told Coded.fit_told Coded.refusal
told_alike Refusal.WrongLength l b used = refl
told_alike Refusal.Idle l b used = refl
told_alike Refusal.NoInstruction l b used = refl
told_alike Refusal.NoInterrupt l b used = refl
told_alike (Refusal.NoInterruptAt i) l b used = refl
told_alike Refusal.WrongClass l b used = refl
told_alike (Refusal.WrongClassAt i) l b used = refl
told_alike Refusal.OutOfRange l b used = refl
told_alike Refusal.WrongList l b used = refl
told_alike Refusal.BrokenLayout l b used = refl
told_alike (Refusal.TooNew v) l b used = refl
told_alike (Refusal.Broken x) l b used = refl
told_alike Refusal.NoRoom l b used = refl

module _ (l b : List ℕ) (used : ℕ) where
  pub over_room : length l < used → gives (writing_told (Err Refusal.NoRoom)) l ≡ write_settings l used b
  unfolding Settings.write_settings Coded.writing_told Coded.refusal
  over_room h = rw (lt-ltb (length l) used h)

  -- f is the bytes in use
  module _ (f : List ℕ) (h : used ≤ length l) (ef : f ≡ take (used - 0) (drop 0 l)) where
    used_is : f ≡ take used l
    used_is = let z : used - 0 ≡ used = omega arith in rw z at ef

    pub write_refused : (e : Refusal) → fit_told (Err e) ≡ worse (of_used f) (of_block b) → gives (writing_told (Err e)) l ≡ write_settings l used b
    unfolding Settings.write_settings
    write_refused e w = rw (le-ltb (length l) used h, ← used_is, ← w) (told_alike e l b used)

    pub write_good : (v : Unit {0}) (r : Writing) (l₁ : List ℕ) → fit_told (Ok v) ≡ worse (of_used f) (of_block b)
        → gives r l₁ ≡ writes l used b → gives r l₁ ≡ write_settings l used b
    unfolding Settings.write_settings Coded.fit_told
    write_good v r l₁ w e = rw (le-ltb (length l) used h, ← used_is, ← w) e

pub ruleset writing = (trailer_is, no_room_lem, written_is, good_least, good_most, over_room, write_refused, write_good)
