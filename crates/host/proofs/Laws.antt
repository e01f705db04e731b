-- A call that gives this answer and this memory, the answer encoded: one law for every kind of answer.
use Prim.Native.Nat.{ℕ, ◌+◌, ◌*◌, ◌<◌}
use native.Mathlib.Omega.{arith}
use mathlib.Core.Path.{◌≡◌, refl, sym, ap, ◌∙◌}
use Rattle.std.specs.Prelude.{Result, Ok, Err, unwrap_or}
use Rattle.model.specs.declared.Answer.TheVariants as Answered
use Rattle.model.specs.declared.Name.{Name}
use Rattle.model.specs.declared.Registers.{Registers}
use Rattle.model.specs.declared.fault.Fault.{Fault}
use Rattle.model.specs.declared.refusal.Refusal.{Refusal}
use Rattle.model.specs.declared.refusal.Refusal.TheVariants.{WrongLength, Idle, NoInstruction, NoInterrupt, NoInterruptAt, WrongClass, WrongClassAt, OutOfRange, WrongList, BrokenLayout, TooNew, Broken, NoRoom}
use Rattle.model.specs.Told.{Answer, Held, Verdict, Writing}
use Rattle.model.specs.Told as Told
use Rattle.model.specs.Answer as Answer
use Rattle.model.specs.Answer.{Outcome, answer_of, memory_of, done_number, waits_number, handed_out_number, written_number}
use Rattle.model.specs.Answer.Outcome.{gives}
use Rattle.model.specs.Coded as Coded
use Rattle.model.specs.Coded.{told, held_told, verdict_told, writing_told, fault_number, refusal_number, refusal_place}
use Rattle.model.specs.Bytes.{Memory}
use Rattle.host.specs.Encoded as Encoded
use Rattle.host.specs.Encoded.{encoded, encoded_held, encoded_verdict, encoded_writing, packed, refusal_code, handed_sum, fault_sum, refused_sum, held_sum}
use Rattle.host.specs.Encoded.{held_refused_sum, verdict_refused_sum, refused_at_sum, held_refused_at_sum, verdict_refused_at_sum}
use Rattle.host.specs.Encoded.{writing_refused_sum, writing_refused_at_sum}

module _ {A : Type 0} (code : A → ℕ) where
  answers : (o : Outcome A Memory) (a : A) (m : Memory) (r : ℕ) → gives a m ≡ o → r ≡ code a → r ≡ code (answer_of o)
  unfolding Answer.answer_of
  answers o a m r g e = e ∙ ap (λ (x : Outcome A Memory). code (answer_of x)) g

pub step_encoded : (o : Outcome Answer Memory) (a : Answer) (m : Memory) (r : ℕ) → gives a m ≡ o → r ≡ encoded a → r ≡ encoded (answer_of o)
step_encoded = answers encoded

leaves : {A : Type 0} (o : Outcome A Memory) (a : A) (m : Memory) → gives a m ≡ o → m ≡ memory_of o
unfolding Answer.memory_of
leaves {A} o a m g = ap (λ (x : Outcome A Memory). memory_of x) g

pub step_leaves : (o : Outcome Answer Memory) (a : Answer) (m : Memory) → gives a m ≡ o → m ≡ memory_of o
step_leaves = leaves

pub held_encoded : (o : Outcome Held Memory) (a : Held) (m : Memory) (r : ℕ) → gives a m ≡ o → r ≡ encoded_held a → r ≡ encoded_held (answer_of o)
held_encoded = answers encoded_held

pub verdict_encoded : (o : Outcome Verdict Memory) (a : Verdict) (m : Memory) (r : ℕ) → gives a m ≡ o → r ≡ encoded_verdict a → r ≡ encoded_verdict (answer_of o)
verdict_encoded = answers encoded_verdict

pub writing_encoded : (o : Outcome Writing Memory) (a : Writing) (m : Memory) (r : ℕ) → gives a m ≡ o → r ≡ encoded_writing a → r ≡ encoded_writing (answer_of o)
writing_encoded = answers encoded_writing

pub writing_leaves : (o : Outcome Writing Memory) (a : Writing) (m : Memory) → gives a m ≡ o → m ≡ memory_of o
writing_leaves = leaves

pub ruleset encodings = (step_encoded, step_leaves, held_encoded, verdict_encoded, writing_encoded, writing_leaves)

-- ---- registers
pub pack_is : (r : Registers)
    → r.a * 256 + r.s * 65536 + r.p * 16777216 + r.z * 33554432 + r.ci * 67108864 + r.lr * 134217728 + r.w * 1099511627776 ≡ packed r
unfolding Encoded.packed Encoded.low_part
pack_is r = refl

-- ---- an answer of each kind, from its values
pub done_code : done_number ≡ encoded (told (Ok Answered.Done))
unfolding Encoded.encoded Encoded.weighed Answer.numbers Coded.told Coded.answered
done_code = refl

pub waits_code : waits_number ≡ encoded (told (Ok Answered.Waits))
unfolding Encoded.encoded Encoded.weighed Answer.numbers Coded.told Coded.answered
waits_code = refl

pub handed_code : (p b : ℕ) → handed_out_number + p * 256 + b * 16777216 ≡ encoded (told (Ok (Answered.HandedOut p b)))
unfolding Coded.told Coded.answered
handed_code p b = sym (handed_sum p b)

pub fault_code : (f : Fault) (n : Name) (x : ℕ) → x ≡ fault_number f → x + n.0 * 256 ≡ encoded (told (Ok (Answered.Fault f n)))
unfolding Coded.told Coded.answered
fault_code f n x e = rw (e, fault_sum (fault_number f) n.0)

-- a refusal of a call whose answer is A: by its number alone, and with what is told beside it
module _ {A : Type 0} (code : A → ℕ) (refused : ℕ → A) (at : ℕ → ℕ → A) (one : (k : ℕ) → code (refused k) ≡ k) (two : (k a : ℕ) → code (at k a) ≡ k + a * 256) where
  refusal_is : (e : Refusal) → refusal_code e ≡ code (Coded.refusal refused at e)
  unfolding Encoded.refusal_code Coded.refusal
  refusal_is WrongLength = sym (one _)
  refusal_is Idle = sym (one _)
  refusal_is NoInstruction = sym (one _)
  refusal_is NoInterrupt = sym (one _)
  refusal_is (NoInterruptAt i) = sym (two _ i)
  refusal_is WrongClass = sym (one _)
  refusal_is (WrongClassAt i) = sym (two _ i)
  refusal_is OutOfRange = sym (one _)
  refusal_is WrongList = sym (one _)
  refusal_is BrokenLayout = sym (one _)
  refusal_is (TooNew v) = sym (two _ v)
  refusal_is (Broken b) = sym (two _ _)
  refusal_is NoRoom = sym (one _)

pub refused_code : (e : Refusal) → refusal_code e ≡ encoded (told (Err e))
unfolding Coded.told
refused_code = refusal_is encoded Told.Answer.Refused Told.Answer.RefusedAt refused_sum refused_at_sum

pub held_code : (r : Registers) → packed r ≡ encoded_held (held_told (Ok r))
unfolding Coded.held_told
held_code r = sym (held_sum r)

pub held_refused_code : (e : Refusal) → refusal_code e ≡ encoded_held (held_told (Err e))
unfolding Coded.held_told
held_refused_code = refusal_is encoded_held Held.Refused Held.RefusedAt held_refused_sum held_refused_at_sum

pub well_formed_code : done_number ≡ encoded_verdict (verdict_told (Ok tt))
unfolding Encoded.encoded_verdict Encoded.weighed Answer.verdict_numbers Coded.verdict_told
well_formed_code = refl

pub verdict_refused_code : (e : Refusal) → refusal_code e ≡ encoded_verdict (verdict_told (Err e))
unfolding Coded.verdict_told
verdict_refused_code = refusal_is encoded_verdict Verdict.Refused Verdict.RefusedAt verdict_refused_sum verdict_refused_at_sum

pub written_code : (n : ℕ) → written_number ≡ encoded_writing (writing_told (Ok n))
unfolding Encoded.encoded_writing Coded.writing_told
written_code n = refl

pub writing_refused_code : (e : Refusal) → refusal_code e ≡ encoded_writing (writing_told (Err e))
unfolding Coded.writing_told
writing_refused_code = refusal_is encoded_writing Writing.Refused Writing.RefusedAt writing_refused_sum writing_refused_at_sum

-- the number, and what is told beside it where there is something
pub refusal_sum : (e : Refusal) (n p : ℕ) → n ≡ refusal_number e → p ≡ unwrap_or (refusal_place e) 0 → n + p * 256 ≡ refusal_code e
unfolding Encoded.refusal_code Coded.refusal Coded.refusal_number Coded.refusal_place
refusal_sum WrongLength n p en ep = rw (en, ep)
refusal_sum Idle n p en ep = rw (en, ep)
refusal_sum NoInstruction n p en ep = rw (en, ep)
refusal_sum NoInterrupt n p en ep = rw (en, ep)
refusal_sum (NoInterruptAt i) n p en ep = rw (en, ep)
refusal_sum WrongClass n p en ep = rw (en, ep)
refusal_sum (WrongClassAt i) n p en ep = rw (en, ep)
refusal_sum OutOfRange n p en ep = rw (en, ep)
refusal_sum WrongList n p en ep = rw (en, ep)
refusal_sum BrokenLayout n p en ep = rw (en, ep)
refusal_sum (TooNew v) n p en ep = rw (en, ep)
refusal_sum (Broken b) n p en ep = rw (en, ep)
refusal_sum NoRoom n p en ep = rw (en, ep)

pub ruleset coding = (pack_is, done_code, waits_code, handed_code, fault_code, refused_code, held_code, held_refused_code, well_formed_code, verdict_refused_code, written_code, writing_refused_code)
