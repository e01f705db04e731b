-- Refusals and faults: "The answer gives its number". What the numbers of an answer say of the step, of every call that may write, on any memory: "Refusals
-- leave all memory untouched", a fault is the one step on the memory as it was, an own code is handed out and leaves it. Assumes nothing.
use Rattle.std.proofs.Math.Path.{◌≡◌, ap}
use Rattle.std.proofs.Common.{◌∙◌}
use mathlib.Core.List.{List, [], ◌∷◌}
use Rattle.std.specs.Prelude.{ℕ, ◌≤◌}
use native.Mathlib.Omega.{arith}
use Rattle.std.proofs.Math.ListN.{length}
use Rattle.model.specs.Map.{last_fault}
use Rattle.model.specs.Told.Finding.{Broken}
use Rattle.model.specs.Answer as Answer
use Rattle.model.specs.Answer.{answer_of, memory_of, numbers, broken_counters, broken_pages, handed_out_number, wrong_length}
use Rattle.model.specs.Fault as Faults
use Rattle.model.specs.Bytes as Model
use Rattle.model.specs.Bytes.{Step, finding}
use Rattle.laws.specs.Findings.{found_broken}
use Rattle.laws.specs.Kinds.{Kind}
use Rattle.laws.specs.Kinds.Kind.{done, waits, handed, faulted, refused, placed, told}

-- refusals are 20-29, of which 24 and 25 of a burst come with a place and 29 with a version, and 30-34 with an address
abbrev pub first_refusal : ℕ
first_refusal = wrong_length

abbrev pub last_refusal : ℕ
last_refusal = broken_counters

pub first_number : {j k : ℕ} {ns ms : List ℕ} → ◌≡◌ {A = List ℕ} (j ∷ ns) (k ∷ ms) → j ≡ k
first_number e = cc

module _ {m : List ℕ} (o : Step) where
  -- a number of a refusal: the memory is as it was
  pub kind_kept : Kind m o → (k : ℕ) (ns : List ℕ) → first_refusal ≤ k → k ≤ last_refusal → numbers (answer_of o) ≡ k ∷ ns → memory_of o ≡ m
  unfolding Answer.numbers Answer.answer_of Answer.memory_of Faults.fault
  kind_kept (done e) k ns l u q = let z = first_number (rw e at q) in absurd (omega arith)
  kind_kept (waits e) k ns l u q = let z = first_number (rw e at q) in absurd (omega arith)
  kind_kept (handed p a e) k ns l u q = rw e
  kind_kept (faulted f i j e) k ns l u q = let z = first_number (rw e at q) in absurd (omega arith)
  kind_kept (refused j i h e) k ns l u q = rw e
  kind_kept (placed j p i h e) k ns l u q = rw e
  kind_kept (told j a f e) k ns l u q = rw e

  -- an own code's number
  pub kind_hands : Kind m o → (p a : ℕ) → numbers (answer_of o) ≡ handed_out_number ∷ p ∷ a ∷ [] → memory_of o ≡ m
  unfolding Answer.numbers Answer.answer_of Answer.memory_of Faults.fault
  kind_hands (done e) p a q = let z = first_number (rw e at q) in absurd (omega arith)
  kind_hands (waits e) p a q = let z = first_number (rw e at q) in absurd (omega arith)
  kind_hands (handed b c e) p a q = rw e
  kind_hands (faulted f i j e) p a q = let z = first_number (rw e at q) in absurd (omega arith)
  kind_hands (refused j i h e) p a q = rw e
  kind_hands (placed j b i h e) p a q = rw e
  kind_hands (told j b f e) p a q = rw e

  -- a fault's number: it is that fault, by the one who runs
  pub kind_fault : Kind m o → (f n : ℕ) → numbers (answer_of o) ≡ f ∷ n ∷ [] → f ≤ last_fault
      → (o ≡ Model.fault m f) × (1 ≤ f) × (n ≡ Model.name m (Model.running m))
  unfolding Answer.numbers Answer.answer_of Faults.fault
  kind_fault (done e) f n q l = let z = lengths (rw e at q) in absurd (omega arith)
    where
      lengths : ◌≡◌ {A = List ℕ} (0 ∷ []) (f ∷ n ∷ []) → ◌≡◌ {A = ℕ} 1 2
      lengths e = ap length e
  kind_fault (waits e) f n q l = let z = first_number (rw e at q) in absurd (omega arith)
  kind_fault (handed b c e) f n q l = let z = first_number (rw e at q) in absurd (omega arith)
  kind_fault (faulted g i j e) f n q l =
      let x = rw e at q in
      let z : g ≡ f = first_number x in
      (e ∙ ap (λ (y : ℕ). Model.fault m y) z, omega arith, second x)
    where
      second : {a b c d : ℕ} → ◌≡◌ {A = List ℕ} (a ∷ b ∷ []) (c ∷ d ∷ []) → d ≡ b
      second e = cc
  kind_fault (refused j i h e) f n q l = let z = first_number (rw e at q) in absurd (omega arith)
  kind_fault (placed j p i h e) f n q l = let z = first_number (rw e at q) in absurd (omega arith)
  kind_fault (told j b g e) f n q l = let z = first_number (rw e at q) in let r = (found_broken g).2 in absurd (omega (arith, r.from))

  -- a class and an address: so the memory was found
  pub kind_told : Kind m o → (k a : ℕ) → numbers (answer_of o) ≡ k ∷ a ∷ [] → broken_pages ≤ k → k ≤ broken_counters → finding m ≡ Broken k a
  unfolding Answer.numbers Answer.answer_of Faults.fault
  kind_told (done e) k a q l u = let z = first_number (rw e at q) in absurd (omega arith)
  kind_told (waits e) k a q l u = let z = first_number (rw e at q) in absurd (omega arith)
  kind_told (handed b c e) k a q l u = let z = first_number (rw e at q) in absurd (omega arith)
  kind_told (faulted f i j e) k a q l u = let z = first_number (rw e at q) in absurd (omega arith)
  kind_told (refused j i h e) k a q l u = let z = first_number (rw e at q) in absurd (omega arith)
  kind_told (placed j p i h e) k a q l u = let z = first_number (rw e at q) in absurd (omega arith)
  kind_told (told j b g e) k a q l u = let x = rw e at q in g ∙ both x
    where
      both : ◌≡◌ {A = List ℕ} (j ∷ b ∷ []) (k ∷ a ∷ []) → Broken j b ≡ Broken k a
      both e = cc
