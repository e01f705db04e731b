-- The record handed back to its page: where one of its values is new that word is stored, and where none is nothing is. On a memory of bytes.
use Prim.Native.Nat.{ℕ, ◌+◌, ◌*◌, ◌/◌, ◌%◌, ◌<◌}
use mathlib.Core.Path.{◌≡◌, refl, sym, ◌∙◌}
use native.Mathlib.Omega.{arith}
use lib.ListN.{get_or}
use lib.Seq.{get_or-set_other, set-get_or}
use mir.Val.{Fits}
use mir.Syntax.{w8}
use Rattle.model.specs.declared.Registers.{Registers}
use Rattle.model.specs.Map.{place, high, low, joined, lower, p_in, z_in, ci_in}
use Rattle.model.specs.Map.{three_flags, flags_kept, p_set, stop_in, stop_set, stop_cleared, w_set, stop_put}
use Rattle.model.specs.Map.{word_a, word_s, high_lr, low_lr, state}
use Rattle.model.specs.Address.{wrapped}
use Rattle.model.specs.Processor as Processor
use Rattle.model.specs.Processor.{advanced, accumulated, jumped, carried, stopped_once, started_once}
use Rattle.model.specs.Bytes.{Memory, word, store, lr_of, running, stop, start, set_lr, advance, registers_of, hand_back}

-- "words of 8 bits": what owning a slice of bytes says
abbrev pub Bytes : Memory → Type 0
Bytes m = (i : ℕ) → Fits w8 (get_or m i 0)

-- ---- a value that was read comes back as it was
z_bit : (w : ℕ) → z_in w % 2 ≡ z_in w
z_bit w = omega arith

ci_bit : (w : ℕ) → ci_in w % 2 ≡ ci_in w
ci_bit w = omega arith

p_bit : (w : ℕ) → w < 256 → p_in w % 2 ≡ p_in w
p_bit w h = omega arith

p_rest : (w : ℕ) → p_in w * 128 + w % 128 ≡ w
p_rest w = omega arith

z_rest : (w : ℕ) → z_in w * 64 + w % 64 ≡ w % 128
z_rest w = omega arith

ci_rest : (w : ℕ) → ci_in w * 32 + w % 32 ≡ w % 64
ci_rest w = omega arith

lr_rest : (w : ℕ) → w / 32 * 32 + w % 32 ≡ w
lr_rest w = omega arith

high_back : (w l : ℕ) → l < 256 → high (joined w l) ≡ w % 32
high_back w l g = omega arith

sum : (p z c x y h w f : ℕ) → p + x ≡ w → z + y ≡ x → c + h ≡ y → f + h ≡ w → p + z + c ≡ f
sum p z c x y h w f a b d e = omega arith

three_back : (w : ℕ) → w < 256 → three_flags (p_in w) (z_in w) (ci_in w) ≡ w / 32 * 32
three_back w h = rw (p_bit w h, z_bit w, ci_bit w) (sum _ _ _ _ _ _ w _ (p_rest w) (z_rest w) (ci_rest w) (lr_rest w))

flags_back : (w l : ℕ) → w < 256 → l < 256 → three_flags (p_in w) (z_in w) (ci_in w) + high (joined w l) ≡ w
flags_back w l h g = rw (three_back w h, high_back w l g) (lr_rest w)

flags_jump : (w a : ℕ) → w < 256 → three_flags (p_in w) (z_in w) (ci_in w) + high a ≡ flags_kept w (high a)
flags_jump w a h = rw (three_back w h)

carry : (p z c x y h : ℕ) → z + y ≡ x → c + h ≡ y → p + z + c + h ≡ p + x
carry p z c x y h b d = omega arith

flags_carry : (w l c : ℕ) → l < 256 → c < 2 → three_flags c (z_in w) (ci_in w) + high (joined w l) ≡ p_set w c
flags_carry w l c g k =
    let e : c % 2 ≡ c = omega arith in
    rw (e, z_bit w, ci_bit w, high_back w l g) (carry (c * 128) _ _ _ _ _ (z_rest w) (ci_rest w))

low_back : (w l : ℕ) → l < 256 → low (joined w l) ≡ l
low_back w l g = omega arith

w_back : (x : ℕ) → w_set x (lower x) ≡ x
w_back x = omega arith

stop_back : (x : ℕ) → x < 256 → stop_put x (stop_in x) ≡ x
stop_back x h = omega arith

-- ---- the six stores of a record
handed : (m m₁ m₂ m₃ m₄ m₅ m₆ : Memory) (p : ℕ) (r : Registers) → m₁ ≡ store m p word_a (low r.a) → m₂ ≡ store m₁ p word_s (low r.s)
    → m₃ ≡ store m₂ p high_lr (three_flags r.p r.z r.ci + high r.lr) → m₄ ≡ store m₃ p low_lr (low r.lr)
    → m₅ ≡ store m₄ p state (w_set (word m₄ p state) r.w) → m₆ ≡ store m₅ p state (stop_put (word m₅ p state) r.stopped)
    → hand_back m p r ≡ m₆
unfolding Processor.hand_back Processor.set_registers_of Processor.set_flags_lr
handed m m₁ m₂ m₃ m₄ m₅ m₆ p r e₁ e₂ e₃ e₄ e₅ e₆ = sym (rw (← e₁, ← e₂, ← e₃, ← e₄, ← e₅) e₆)

module _ (m : Memory) (p : ℕ) (b : Bytes m) where
  -- a word that is stored as it stands
  as_is : (n : Memory) (k v : ℕ) → v ≡ word n p k → n ≡ store n p k v
  as_is n k v e = rw (e, set-get_or n (place p k) 0)

  -- word k after word j was stored
  past : (n : Memory) (j k v : ℕ) → (j < k) → word (store n p j v) p k ≡ word n p k
  past n j k v l = get_or-set_other n (place p j) (place p k) v 0 (λ e. absurd (omega arith))

  byte : (k : ℕ) → word m p k < 256
  byte k = (b (place p k)).fits

  low_kept : (n : Memory) (k : ℕ) → word n p k ≡ word m p k → n ≡ store n p k (low (word m p k))
  low_kept n k e = as_is n k (low (word m p k)) (let h : word m p k < 256 = byte k in omega arith)

  flags_kept_lem : (n : Memory) → word n p high_lr ≡ word m p high_lr
      → n ≡ store n p high_lr (three_flags (p_in (word m p high_lr)) (z_in (word m p high_lr)) (ci_in (word m p high_lr)) + high (lr_of m p))
  flags_kept_lem n e = as_is n high_lr _ (flags_back (word m p high_lr) (word m p low_lr) (byte high_lr) (byte low_lr) ∙ sym e)

  lr_kept : (n : Memory) → word n p low_lr ≡ word m p low_lr → n ≡ store n p low_lr (low (lr_of m p))
  lr_kept n e = as_is n low_lr _ (low_back (word m p high_lr) (word m p low_lr) (byte low_lr) ∙ sym e)

  w_kept : (n : Memory) → word n p state ≡ word m p state → n ≡ store n p state (w_set (word n p state) (lower (word m p state)))
  w_kept n e = as_is n state _ (rw (← e) (w_back (word n p state)))

  stop_kept : (n : Memory) → word n p state ≡ word m p state → n ≡ store n p state (stop_put (word n p state) (stop_in (word m p state)))
  stop_kept n e = as_is n state _ (rw e (stop_back (word m p state) (byte state)))

  -- ---- the laws
  pub back_same : hand_back m p (registers_of m p) ≡ m
  unfolding Processor.registers_of
  back_same =
      handed m m m m m m m p (registers_of m p) (low_kept m word_a refl) (low_kept m word_s refl) (flags_kept_lem m refl) (lr_kept m refl) (w_kept m refl)
      (stop_kept m refl)

  pub back_accumulated : (v : ℕ) → v < 256 → hand_back m p (accumulated (registers_of m p) v) ≡ store m p word_a v
  unfolding Processor.registers_of
  back_accumulated v l =
      let n : Memory = store m p word_a v in
      let e : low v ≡ v = omega arith in
      handed m n n n n n n p (accumulated (registers_of m p) v) (rw e) (low_kept n word_s (past m word_a word_s v (omega arith)))
      (flags_kept_lem n (past m word_a high_lr v (omega arith))) (lr_kept n (past m word_a low_lr v (omega arith)))
      (w_kept n (past m word_a state v (omega arith))) (stop_kept n (past m word_a state v (omega arith)))

  pub back_jumped : (a : ℕ) → hand_back m p (jumped (registers_of m p) a) ≡ set_lr m p a
  unfolding Processor.registers_of Processor.set_lr
  back_jumped a =
      let n : Memory = store m p high_lr (flags_kept (word m p high_lr) (high a)) in
      let o : Memory = store n p low_lr (low a) in
      let e : word o p state ≡ word m p state =
      past n low_lr state (low a) (omega arith) ∙ past m high_lr state (flags_kept (word m p high_lr) (high a)) (omega arith) in
      handed m m m n o o o p (jumped (registers_of m p) a) (low_kept m word_a refl) (low_kept m word_s refl)
      (rw (flags_jump (word m p high_lr) a (byte high_lr))) refl (w_kept o e) (stop_kept o e)

  pub back_stopped : hand_back m p (stopped_once (registers_of m p)) ≡ stop m p
  unfolding Processor.registers_of Processor.stop
  back_stopped =
      let n : Memory = store m p state (stop_set (word m p state)) in
      let e : stop_set (word m p state) ≡ stop_put (word m p state) 1 = omega arith in
      handed m m m m m m n p (stopped_once (registers_of m p)) (low_kept m word_a refl) (low_kept m word_s refl) (flags_kept_lem m refl) (lr_kept m refl)
      (w_kept m refl) (rw e)

  pub back_started : hand_back m p (started_once (registers_of m p)) ≡ start m p
  unfolding Processor.registers_of Processor.start
  back_started =
      let n : Memory = store m p state (stop_cleared (word m p state)) in
      let e : stop_put (word m p state) 0 ≡ stop_cleared (word m p state) = omega arith in
      handed m m m m m m n p (started_once (registers_of m p)) (low_kept m word_a refl) (low_kept m word_s refl) (flags_kept_lem m refl) (lr_kept m refl)
      (w_kept m refl) (rw e)

  -- code 13's sum: A and P
  pub back_added : (v c : ℕ) → v < 256 → c < 2
      → hand_back m p (carried (accumulated (registers_of m p) v) c) ≡ store (store m p word_a v) p high_lr (p_set (word m p high_lr) c)
  unfolding Processor.registers_of
  back_added v c l k =
      let n : Memory = store m p word_a v in
      let o : Memory = store n p high_lr (p_set (word m p high_lr) c) in
      let e : low v ≡ v = omega arith in
      let x : word o p state ≡ word m p state = past n high_lr state _ (omega arith) ∙ past m word_a state v (omega arith) in
      handed m n n o o o o p (carried (accumulated (registers_of m p) v) c) (rw e) (low_kept n word_s (past m word_a word_s v (omega arith)))
      (rw (flags_carry (word m p high_lr) (word m p low_lr) c (byte low_lr) k))
      (lr_kept o (past n high_lr low_lr _ (omega arith) ∙ past m word_a low_lr v (omega arith))) (w_kept o x) (stop_kept o x)

-- ---- what the code does with a record r of page p: n is what it hands back
module _ (m m₁ : Memory) (p : ℕ) (r n : Registers) (b : Bytes m) (er : r ≡ registers_of m p) where
  pub accumulate_is : (v w : ℕ) → v < 256 → w ≡ v → n ≡ accumulated r w → m₁ ≡ hand_back m p n → m₁ ≡ store m p word_a v
  accumulate_is v w l ew en e₁ = e₁ ∙ rw (en, ew, er) (back_accumulated m p b v l)

  pub stop_is : n ≡ stopped_once r → m₁ ≡ hand_back m p n → m₁ ≡ stop m p
  stop_is en e₁ = e₁ ∙ rw (en, er) (back_stopped m p b)

  pub start_is : n ≡ started_once r → m₁ ≡ hand_back m p n → m₁ ≡ start m p
  start_is en e₁ = e₁ ∙ rw (en, er) (back_started m p b)

  pub jump_is : (a : ℕ) → n ≡ jumped r a → m₁ ≡ hand_back m p n → m₁ ≡ set_lr m p a
  jump_is a en e₁ = e₁ ∙ rw (en, er) (back_jumped m p b a)

  pub advance_is : (len : ℕ) → p ≡ running m → n ≡ advanced r len → m₁ ≡ hand_back m p n → m₁ ≡ advance m len
  unfolding Processor.advance Processor.registers_of
  advance_is len ep en e₁ = e₁ ∙ rw (en, er) (rw (← ep) (back_jumped m p b (wrapped (lr_of m p) len)))

pub ruleset records = (accumulate_is, stop_is, start_is, jump_is, advance_is)
