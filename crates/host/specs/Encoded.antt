-- An answer as one number of 64 bits, from document 01's numbers of it (model/specs/Answer.antt): each number times the power of two at which its bits begin.
-- Then: each can be read off again, of every answer that a call gives.
use Rattle.std.specs.Prelude.{ℕ, ◌+◌, ◌*◌, ◌/◌, ◌%◌, ◌<◌, ◌≡◌, List, [], ◌∷◌, get_or}
use Rattle.std.proofs.Common.{arith}
use Rattle.model.specs.declared.Registers.{Registers}
use Rattle.model.specs.declared.refusal.Refusal.{Refusal}
use Rattle.model.specs.Told.{Answer}
use Rattle.model.specs.Told.Answer.{HandedOut, Fault, Refused, RefusedAt}
use Rattle.model.specs.Told.{Held}
use Rattle.model.specs.Told.{Verdict}
use Rattle.model.specs.Told.{Writing}
use Rattle.model.specs.Map.{place, word_a, word_s, high_lr, low_lr}
use Rattle.model.specs.Processor as Processor
use Rattle.model.specs.Answer as Answer
use Rattle.model.specs.Answer.{numbers, held_numbers, verdict_numbers, done_number, handed_out_number, written_number}
use Rattle.model.specs.Coded as Coded
use Rattle.model.specs.Bytes.{registers_of}

unfoldable pub weighed : List ℕ → List ℕ → ℕ
weighed [] xs = 0
weighed (w ∷ ws) [] = 0
weighed (w ∷ ws) (x ∷ xs) = x * w + weighed ws xs

-- ---- the answer's number from bit 0 on, the first value from bit 8, the second from bit 24
abbrev pub answer_bits : List ℕ
answer_bits = 1 ∷ 256 ∷ 16777216 ∷ []

unfoldable pub encoded : Answer → ℕ
encoded a = weighed answer_bits (numbers a)

unfoldable pub encoded_verdict : Verdict → ℕ
encoded_verdict v = weighed answer_bits (verdict_numbers v)

-- of settings written the number only: the new length need not fit, and who lent the buffer can tell it
unfoldable pub encoded_writing : Writing → ℕ
encoded_writing (Writing.Written n) = written_number
encoded_writing (Writing.Refused k) = weighed answer_bits (k ∷ [])
encoded_writing (Writing.RefusedAt k v) = weighed answer_bits (k ∷ v ∷ [])

-- ---- registers: A from bit 8 on, S 16, P 24, Z 25, CI 26, LR 27, W 40
abbrev pub register_bits : List ℕ
register_bits = 1 ∷ 256 ∷ 65536 ∷ 16777216 ∷ 33554432 ∷ 67108864 ∷ 134217728 ∷ 1099511627776 ∷ []

unfoldable pub encoded_held : Held → ℕ
encoded_held h = weighed register_bits (held_numbers h)

-- those that a host sets: it does not name the stopped bit
abbrev pub set_to : ℕ → ℕ → ℕ → ℕ → ℕ → ℕ → ℕ → Registers
set_to a s p z ci lr w = record { a = a; s = s; p = p; z = z; ci = ci; lr = lr; w = w; stopped = 0 }

-- a refusal of any call: its number, and what is told beside it
unfoldable pub refusal_code : Refusal → ℕ
refusal_code = Coded.refusal (λ k. k) (λ k a. k + a * 256)

-- ---- as sums
pub handed_sum : (p a : ℕ) → encoded (HandedOut p a) ≡ handed_out_number + p * 256 + a * 16777216
unfolding encoded weighed Answer.numbers
handed_sum p a = omega arith

pub fault_sum : (f n : ℕ) → encoded (Fault f n) ≡ f + n * 256
unfolding encoded weighed Answer.numbers
fault_sum f n = omega arith

pub refused_sum : (k : ℕ) → encoded (Refused k) ≡ k
unfolding encoded weighed Answer.numbers
refused_sum k = omega arith

pub refused_at_sum : (k a : ℕ) → encoded (RefusedAt k a) ≡ k + a * 256
unfolding encoded weighed Answer.numbers
refused_at_sum k a = omega arith

unfoldable pub low_part : Registers → ℕ
low_part r = r.a * 256 + r.s * 65536 + r.p * 16777216 + r.z * 33554432 + r.ci * 67108864

unfoldable pub packed : Registers → ℕ
packed r = low_part r + r.lr * 134217728 + r.w * 1099511627776

pub held_sum : (r : Registers) → encoded_held (Held.Has r) ≡ packed r
unfolding encoded_held weighed low_part packed Answer.held_numbers
held_sum r = omega arith

pub held_refused_sum : (k : ℕ) → encoded_held (Held.Refused k) ≡ k
unfolding encoded_held weighed Answer.held_numbers
held_refused_sum k = omega arith

pub held_refused_at_sum : (k a : ℕ) → encoded_held (Held.RefusedAt k a) ≡ k + a * 256
unfolding encoded_held weighed Answer.held_numbers
held_refused_at_sum k a = omega arith

pub verdict_refused_sum : (k : ℕ) → encoded_verdict (Verdict.Refused k) ≡ k
unfolding encoded_verdict weighed Answer.verdict_numbers
verdict_refused_sum k = omega arith

pub verdict_refused_at_sum : (k a : ℕ) → encoded_verdict (Verdict.RefusedAt k a) ≡ k + a * 256
unfolding encoded_verdict weighed Answer.verdict_numbers
verdict_refused_at_sum k a = omega arith

pub writing_refused_sum : (k : ℕ) → encoded_writing (Writing.Refused k) ≡ k
unfolding encoded_writing weighed
writing_refused_sum k = omega arith

pub writing_refused_at_sum : (k v : ℕ) → encoded_writing (Writing.RefusedAt k v) ≡ k + v * 256
unfolding encoded_writing weighed
writing_refused_at_sum k v = omega arith

-- ---- read off again: the numbers of a fault, of a refusal with its address, and of an own code
pub fault_read : (f n : ℕ) → f < 256 → n < 65536 → (encoded (Fault f n) % 256 ≡ f) × (encoded (Fault f n) / 256 % 65536 ≡ n)
fault_read f n u v = rw (fault_sum f n) (omega arith, omega arith)

-- the same of all four kinds of answer
pub refused_at_read : (k a : ℕ) → k < 256 → a < 65536 → (encoded (RefusedAt k a) % 256 ≡ k) × (encoded (RefusedAt k a) / 256 % 65536 ≡ a)
refused_at_read k a u v = rw (refused_at_sum k a) (omega arith, omega arith)

pub held_refused_at_read : (k a : ℕ) → k < 256 → a < 65536
    → (encoded_held (Held.RefusedAt k a) % 256 ≡ k) × (encoded_held (Held.RefusedAt k a) / 256 % 65536 ≡ a)
held_refused_at_read k a u v = rw (held_refused_at_sum k a) (omega arith, omega arith)

pub verdict_refused_at_read : (k a : ℕ) → k < 256 → a < 65536
    → (encoded_verdict (Verdict.RefusedAt k a) % 256 ≡ k) × (encoded_verdict (Verdict.RefusedAt k a) / 256 % 65536 ≡ a)
verdict_refused_at_read k a u v = rw (verdict_refused_at_sum k a) (omega arith, omega arith)

pub writing_refused_at_read : (k v : ℕ) → k < 256 → v < 65536
    → (encoded_writing (Writing.RefusedAt k v) % 256 ≡ k) × (encoded_writing (Writing.RefusedAt k v) / 256 % 65536 ≡ v)
writing_refused_at_read k v u w = rw (writing_refused_at_sum k v) (omega arith, omega arith)

pub handed_read : (p a : ℕ) → p < 65536 → a < 65536
    → (encoded (HandedOut p a) % 256 ≡ handed_out_number) × (encoded (HandedOut p a) / 256 % 65536 ≡ p) × (encoded (HandedOut p a) / 16777216 % 65536 ≡ a)
handed_read p a u v = rw (handed_sum p a) (omega arith, omega arith, omega arith)

-- registers that are within their bits
pub record Fits (r : Registers) : Type 0 where
  pub a : r.a < 256
  pub s : r.s < 256
  pub p : r.p < 2
  pub z : r.z < 2
  pub ci : r.ci < 2
  pub lr : r.lr < 8192
  pub w : r.w < 16

pub record ReadOff (x : ℕ) (r : Registers) : Type 0 where
  pub number : x % 256 ≡ done_number
  pub a : x / 256 % 256 ≡ r.a
  pub s : x / 65536 % 256 ≡ r.s
  pub p : x / 16777216 % 2 ≡ r.p
  pub z : x / 33554432 % 2 ≡ r.z
  pub ci : x / 67108864 % 2 ≡ r.ci
  pub lr : x / 134217728 % 8192 ≡ r.lr
  pub w : x / 1099511627776 % 16 ≡ r.w

module _ (r : Registers) (h : Fits r) where
  low_part_lem : low_part r < 134217728
  unfolding low_part
  low_part_lem = omega (arith, h.a, h.s, h.p, h.z, h.ci)

  sum_off : ReadOff (packed r) r
  unfolding packed low_part
  sum_off = record {
    number = omega arith;
    a = omega (arith, h.a);
    s = omega (arith, h.a, h.s);
    p = omega (arith, h.a, h.s, h.p);
    z = omega (arith, h.a, h.s, h.p, h.z);
    ci = omega (arith, h.a, h.s, h.p, h.z, h.ci);
    lr = high.0;
    w = high.1;
  }
    where
      high : (packed r / 134217728 % 8192 ≡ r.lr) × (packed r / 1099511627776 % 16 ≡ r.w)
      high = (omega (arith, low_part_lem, h.lr), omega (arith, low_part_lem, h.lr, h.w))

-- the registers of any page of any memory of bytes fit, so they can be read off the answer
fits : (m : List ℕ) → ((a : ℕ) → get_or m a 0 < 256) → (page : ℕ) → Fits (registers_of m page)
unfolding Processor.registers_of
fits m bytes page = record {
  a = bytes (place page word_a);
  s = bytes (place page word_s);
  p = omega (arith, bytes (place page high_lr));
  z = omega arith;
  ci = omega arith;
  lr = omega (arith, bytes (place page low_lr));
  w = omega arith;
}

pub registers_read : (m : List ℕ) → ((a : ℕ) → get_or m a 0 < 256) → (page : ℕ)
    → ReadOff (encoded_held (Held.Has (registers_of m page))) (registers_of m page)
registers_read m bytes page = rw (held_sum (registers_of m page)) (sum_off (registers_of m page) (fits m bytes page))
