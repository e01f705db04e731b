-- Instructions: "EXI runs another instruction by the same rules". Refusals and faults: "Order". Every instruction leaves a well-formed memory, direct and by
-- EXI, whatever its words hold. Words are of 8 bits: so a flag has three bits, a priority four, a count eight. Assumes nothing.
use Rattle.std.specs.Prelude.{◌≡◌, refl, ◌≢◌, List, [], ◌∷◌, ℕ, ◌≤◌, ◌<◌, get_or}
use Rattle.std.proofs.Common.{arith}
use Rattle.model.specs.Map.{a_word}
use Rattle.model.specs.Address.{wrapped}
use Rattle.model.specs.Bytes.{running, direct, pointed, argument, fetched, field_at}
use Rattle.model.specs.declared.Arguments.{Arguments}
use Rattle.model.specs.Instruction as Instruction
use Rattle.model.specs.Instruction.{arguments, counted_arguments, dep_code, shape_for, st1_code, stp_code}
use Rattle.model.specs.Answer as Answer
use Rattle.model.specs.Bytes as Model
use Rattle.laws.specs.Judged.{WellFormed}
use Rattle.laws.specs.Words.{Small}
use Rattle.laws.specs.Ends.{Fine}
use Rattle.laws.specs.Simple.{pick, fails, cvi_fine, dvi_fine, st2_fine, thirteen_fine}
use Rattle.laws.specs.Mails.{sme_fine, wnm_fine, rme_fine, tme_fine}
use Rattle.laws.specs.Interrupts.{gin_fine, win_fine}
use Rattle.laws.specs.Create.{crp_fine}
use Rattle.laws.specs.Delete.{named_fine}
use Rattle.laws.specs.Each.{fetched_each}

-- ---- what the arguments of code c hold
pub record Bound (c : ℕ) (x : Arguments) : Type 0 where
  pub field : x.field < 16
  pub count : c ≡ 3 → x.count ≤ a_word
  pub send : c ≡ 4 → x.second < 8
  pub wait : c ≡ 5 → x.second < 8
  pub create : c ≡ 11 → x.second < 16

-- seven shapes, each with a field of four bits
seven : (P : Arguments → Type 0) (a b c d e f g : Arguments) → P a → P b → P c → P d → P e → P f → P g → (s : ℕ)
    → P (get_or (a ∷ b ∷ c ∷ d ∷ e ∷ f ∷ g ∷ []) s a)
seven P a b c d e f g p₀ p₁ p₂ p₃ p₄ p₅ p₆ s =
    pick P (a ∷ b ∷ c ∷ d ∷ e ∷ f ∷ g ∷ []) a s s 0 (omega arith)
    ((λ z. p₀), ((λ z. p₁), ((λ z. p₂), ((λ z. p₃), ((λ z. p₄), ((λ z. p₅), ((λ z. p₆), tt))))))) p₀

direct_field : (m : List ℕ) (n s : ℕ) → (direct m n s).field < 16
unfolding Instruction.direct Instruction.direct_counted Instruction.direct_creating
direct_field m n s =
    seven (λ (x : Arguments). x.field < 16) (arguments 0 0 0 0) (arguments (field_at m n) 0 0 0) (arguments (field_at m n) 0 0 (Model.address_of m n))
    (Model.direct_counted m n) (arguments (field_at m n) (Model.three_at m n) 0 0) (arguments (field_at m n) (Model.three_at m n) 0 (Model.address_of m n))
    (Model.direct_creating m n) (omega arith) (omega arith) (omega arith) (omega arith) (omega arith) (omega arith) (omega arith) s

pub direct_bound : (m : List ℕ) → Small m → (n c : ℕ) → Bound c (direct m n (shape_for c))
unfolding Instruction.direct Instruction.direct_counted Instruction.direct_creating
direct_bound m s n c = record {
  field = direct_field m n (shape_for c);
  count = λ e. rw e (omega (arith, s.at (wrapped n 3)));
  send = λ e. rw e (omega (arith, s.at (wrapped n 2)));
  wait = λ e. rw e (omega (arith, s.at (wrapped n 2)));
  create = λ e. rw e (omega (arith, s.at (wrapped n 2)));
}

pointed_field : (m : List ℕ) (e s : ℕ) → (pointed m e s).field < 16
unfolding Instruction.pointed Instruction.pointed_creating
pointed_field m e s =
    seven (λ (x : Arguments). x.field < 16) (arguments 0 0 0 0) (arguments (Model.four_at m e 0) 0 0 0)
    (arguments (Model.four_at m e 0) 0 0 (Model.address_at m (wrapped e 1))) (counted_arguments (argument m e 0) (argument m e 1))
    (arguments (Model.four_at m e 0) (Model.flag_at m e) 0 0) (arguments (Model.four_at m e 0) (Model.flag_at m e) 0 (Model.address_at m (wrapped e 2)))
    (Model.pointed_creating m e) (omega arith) (omega arith) (omega arith) (omega arith) (omega arith) (omega arith) (omega arith) s

pub pointed_bound : (m : List ℕ) → Small m → (c e : ℕ) → Bound c (pointed m e (shape_for c))
unfolding Instruction.pointed Instruction.pointed_creating
pointed_bound m s c e = record {
  field = pointed_field m e (shape_for c);
  count = λ q. rw q (omega (arith, s.at (wrapped e 1)));
  send = λ q. rw q (omega arith);
  wait = λ q. rw q (omega arith);
  create = λ q. rw q (omega arith);
}

-- ---- of a well-formed memory where someone runs
pub fetched_fine : {m : List ℕ} → WellFormed m → running m ≢ 0 → Small m → (n : ℕ) → Fine (fetched m n)
unfolding Answer.memory_of
fetched_fine {m} w d s = fetched_each {B = Bound} Fine (record {
  direct = direct_bound m s;
  pointed = pointed_bound m s;
  fault = fails w d;
  handed = λ p a. w;
  refused = w;
  cvi = λ x len b. cvi_fine w d x.field x.address len b.field;
  dvi = λ x len b. dvi_fine w d x.field len b.field;
  gin = λ x len b. gin_fine w d len;
  win = λ x len b. win_fine w d x.interrupt x.count len (b.count refl);
  sme = λ x len b. sme_fine w d x.field x.second x.address len b.field (b.send refl);
  wnm = λ x len b. wnm_fine w d x.field x.second len (b.wait refl);
  rme = λ x len b. rme_fine w d x.field x.second x.address len;
  tme = λ x len b. tme_fine w d x.field x.second x.address len;
  st1 = λ x len b. named_fine w d st1_code x.field len;
  stp = λ x len b. named_fine w d stp_code x.field len;
  st2 = λ x len b. st2_fine w d x.field x.address len;
  crp = λ x len b. crp_fine w d x.field x.second x.w x.address len b.field (b.create refl);
  dep = λ x len b. named_fine w d dep_code x.field len;
  thirteen = λ x len b. thirteen_fine w d x.field x.second x.address len;
})
