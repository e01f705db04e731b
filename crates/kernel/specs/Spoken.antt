-- An outcome by the paper's numbers of its answer (model/specs/Answer.antt) and the whole memory.
use Rattle.std.specs.Prelude.{◌≡◌, ◌≢◌, ℕ, List, Result, Ok, Err}
use Rattle.model.specs.declared.ControlPage.{ControlPage}
use Rattle.model.specs.declared.refusal.Refusal.{Refusal}
use Rattle.model.specs.declared.refusal.Refusal.TheVariants.{Idle}
use Rattle.model.specs.Answer.{Outcome}
use Rattle.model.specs.Answer.Outcome.{gives}

unfoldable pub spoken : {A M : Type 0} → (A → List ℕ) → Outcome A M → Outcome (List ℕ) M
spoken numbers (gives a m) = gives (numbers a) m

-- a page by its number, or the refusal where that is 0
abbrev pub idle_or : ℕ → Result ControlPage Refusal → Type 0
idle_or p (Ok page) = (page.0 ≡ p) × (p ≢ 0)
idle_or p (Err e) = (e ≡ Idle) × (p ≡ 0)
