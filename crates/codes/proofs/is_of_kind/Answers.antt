use Rattle.std.proofs.Common.{◌≡◌, ℕ, zero, suc, Ok, refl, ◌∙◌, ap, sym, arith}
use lib.Dec.{eqb}
use borrow.Author.Tests.{ne_eqb}
use Rattle.std.specs.Result.{result_eq}
use Rattle.model.specs.declared.instructions.Kind.{Kind}
use Rattle.model.specs.declared.instructions.Kind.TheVariants.{Absent, BuiltIn, Own}
use Rattle.model.specs.contracts.instructions.KindPartialEq.TheImpl as Kinds
use Rattle.model.specs.contracts.instructions.NoKindPartialEq.TheImpl as Others
use Rattle.model.specs.Coded.{kind_of, kind_number}
use Rattle.codes.proofs.is_of_kind.Goals as goal

same : (n : ℕ) (k : Kind) → result_eq Kinds.eq-value.it Others.eq-value.it (kind_of n) (Ok k) ≡ eqb n (kind_number k)
unfolding kind_of kind_number
same zero Absent = refl
same zero BuiltIn = refl
same zero Own = refl
same (suc zero) Absent = refl
same (suc zero) BuiltIn = refl
same (suc zero) Own = refl
same (suc (suc zero)) Absent = refl
same (suc (suc zero)) BuiltIn = refl
same (suc (suc zero)) Own = refl
same (suc (suc (suc n))) Absent = sym (ne_eqb (suc (suc (suc n))) 0 (λ e. omega arith))
same (suc (suc (suc n))) BuiltIn = sym (ne_eqb (suc (suc (suc n))) 1 (λ e. omega arith))
same (suc (suc (suc n))) Own = sym (ne_eqb (suc (suc (suc n))) 2 (λ e. omega arith))

pub returns : goal.returns
returns c = c.eq.ensures ∙ ap (λ k. result_eq Kinds.eq-value.it Others.eq-value.it k (Ok c.args.wanted)) c.kind.ensures ∙ same _ c.args.wanted
