-- Memory map: "8,192 words of 8 bits". Every step keeps words below 256, on any memory. With it what other laws share: either arm of a test, and the walk of
-- a test of Q1. Assumes nothing.
use Rattle.std.specs.Prelude.{◌≡◌, ◌≢◌, ◌⊎◌, Bool, cond, length, get_or, set, ltb}
use Rattle.std.proofs.Math.Path.{refl}
use Rattle.std.proofs.Common.{sym, ◌∙◌, inl, inr, arith, get_or-set_same, get_or-set_other, eq-eqb, ne_eqb, ltb-true, ltb-false}
use Rattle.std.proofs.Math.Bool.{true, false}
use mathlib.Core.List.{List, [], ◌∷◌}
use Prim.Native.Nat.{ℕ, zero, suc, ◌+◌, ◌-◌, ◌*◌, ◌%◌, ◌<◌}
use Rattle.std.proofs.Math.Seq.{set_out}
use Rattle.std.proofs.Math.Dec.{eqb}
use Rattle.std.proofs.lemmas.Bool.{eqb-false}
use Rattle.model.specs.Map.{built_in_codes, c0, c0_interrupt, c1, c1_end, c1_interrupt, c2, c2_end, c2_interrupt, c3, c3_end, c3_interrupt, clock_line}
use Rattle.model.specs.Map.{code_word, control_pages, divider, first_classed, first_control, first_name, first_priority, first_unused, free_list}
use Rattle.model.specs.Map.{free_semaphore, grant_for, guarded_last, head_words, header_of, high, high_lr, interrupt_page, interrupts, is_unmarked, keeps, kept_count}
use Rattle.model.specs.Map.{kernel_pages, label, last_outer, link, list_link, low, low_lr, lower, mark, mark_added, memory_size, note, notice}
use Rattle.model.specs.Map.{page_size, pair, place, processor_list, q1, q2, reason, running_label, running_page, semaphore_of, size, state, text}
use Rattle.model.specs.Map.{own_semaphore, page_queue, three_flags, topped, upper, wait_bit, word_a, word_s, word_values, zero_place}
use Rattle.model.specs.Address.{wrapped}
use Rattle.model.specs.Bytes.{length_of, name, running, word}
use Rattle.model.specs.declared.Registers.{Registers}
use Rattle.model.specs.Address as Address
use Rattle.model.specs.Queue as Queue
use Rattle.model.specs.Queue.{first}
use Rattle.model.specs.Processor as Processor
use Rattle.model.specs.Wait as Wait
use Rattle.model.specs.Page as Page
use Rattle.model.specs.Page.{Taken}
use Rattle.model.specs.Page.Taken.{took}
use Rattle.model.specs.Mail as Mail
use Rattle.model.specs.Mail.{Tested}
use Rattle.model.specs.Mail.Tested.{tested}
use Rattle.model.specs.Delete as Delete
use Rattle.model.specs.Interrupt as Interrupt
use Rattle.model.specs.Turn as Turn
use Rattle.model.specs.Turn.{fold}
use Rattle.model.specs.Fresh as Fresh
use Rattle.model.specs.Bytes as Model
use Rattle.model.specs.Instruction.{built_in}
use Rattle.laws.specs.Count.{hit_or}

pub record Small (m : List ℕ) : Type 0 where
  pub at : (a : ℕ) → get_or m a 0 < word_values

-- either arm of a test
pub either : {A : Type 0} (P : A → Type 0) (c : Bool) {x y : A} → P x → P y → P (cond c x y)
either P true p q = p
either P false p q = q

pub small_set : {m : List ℕ} (a v : ℕ) → v < word_values → Small m → Small (set m a v)
small_set {m} a v l s = record { at = λ b. go b (hit_or b a) (ltb a (length m)) refl }
  where
    go : (b : ℕ) → (b ≡ a) ⊎ (b ≢ a) → (c : Bool) → ltb a (length m) ≡ c → get_or (set m a v) b 0 < word_values
    go b (inl e) true f = rw (e, get_or-set_same m a v 0 (ltb-true a (length m) f)) l
    go b (inl e) false f = rw (set_out m a v (ltb-false a (length m) f)) (s.at b)
    go b (inr n) c f = rw (get_or-set_other m a b v 0 n) (s.at b)

-- ---- addresses and lists
pub small_copy : (n : ℕ) {m : List ℕ} (a b : ℕ) → Small m → Small (Model.copy n m a b)
unfolding Address.copy
small_copy zero a b s = s
small_copy (suc n) {m} a b s = small_copy n (wrapped a 1) (wrapped b 1) (small_set b (get_or m a 0) (s.at a) s)

pub small_zeroed : (n : ℕ) {m : List ℕ} (a : ℕ) → Small m → Small (Model.zeroed n m a)
unfolding Address.zeroed
small_zeroed zero a s = s
small_zeroed (suc n) a s = small_zeroed n a (small_set (wrapped a n) 0 (omega arith) s)

-- all of a list are below 256
abbrev pub Few : List ℕ → Type 0
Few [] = Unit {0}
Few (x ∷ xs) = (x < word_values) × Few xs

pub few_walk : (n : ℕ) {m : List ℕ} (k a : ℕ) → Small m → Few (Model.walk n m k a)
unfolding Queue.walk
few_walk zero k a s = tt
few_walk (suc n) {m} k a s = go (eqb (get_or m a 0) 0) refl (few_walk n k (place (get_or m a 0) k) s)
  where
    go : (c : Bool) → eqb (get_or m a 0) 0 ≡ c → Few (Model.walk n m k (place (get_or m a 0) k)) → Few (Model.walk (suc n) m k a)
    go true e ih = let q : Model.walk (suc n) m k a ≡ [] = rw (e, Queue.walk) in rw q tt
    go false e ih = let q : Model.walk (suc n) m k a ≡ get_or m a 0 ∷ Model.walk n m k (place (get_or m a 0) k) = rw (e, Queue.walk) in rw q (s.at a, ih)

pub few_first : (t : ℕ → Bool) (xs : List ℕ) → Few xs → first t xs < word_values
unfolding Queue.first
few_first t [] f = omega arith
few_first t (x ∷ xs) f = go (t x) refl (few_first t xs f.1)
  where
    go : (c : Bool) → t x ≡ c → first t xs < word_values → first t (x ∷ xs) < word_values
    go true e ih = rw (e, Queue.first) f.0
    go false e ih = rw (e, Queue.first) ih

module _ {m : List ℕ} (s : Small m) where
  pub few_page : (n : ℕ) → Model.page_of m n < word_values
  few_page n = few_first (Model.is_named m n) (Model.processors m) (few_walk control_pages list_link processor_list s)

  pub few_queue : (t : ℕ → Bool) (h : ℕ) → first t (Model.queue m h) < word_values
  few_queue t h = few_first t (Model.queue m h) (few_walk control_pages link h s)

  pub small_join : (h k p : ℕ) → p < word_values → Small (Model.join m h k p)
  unfolding Queue.join
  small_join h k p l = small_set _ p l (small_set (place p k) 0 (omega arith) s)

  pub small_leave : (h k p : ℕ) → Small (Model.leave m h k p)
  unfolding Queue.leave
  small_leave h k p = small_set (place p k) 0 (omega arith) (small_set _ (word m p k) (s.at (place p k)) s)

  -- ---- processors
  pub small_stop : (p : ℕ) → Small (Model.stop m p)
  unfolding Processor.stop
  small_stop p = small_set (place p state) _ (omega arith) s

  pub small_start : (p : ℕ) → Small (Model.start m p)
  unfolding Processor.start
  small_start p = small_set (place p state) _ (omega arith) s

  pub small_lr : (p a : ℕ) → Small (Model.set_lr m p a)
  unfolding Processor.set_lr
  small_lr p a = small_set (place p low_lr) _ (omega arith) (small_set (place p high_lr) _ (omega (arith, s.at (place p high_lr))) s)

  pub small_advance : (n : ℕ) → Small (Model.advance m n)
  unfolding Processor.advance
  small_advance n = small_lr (running m) ((Model.lr m + n) % memory_size)

-- ---- waiting
small_enqueue : {m : List ℕ} → Small m → (a p : ℕ) → p < word_values → Small (Model.enqueue m a p)
unfolding Wait.enqueue
small_enqueue s a p l = small_join (small_set a _ (omega arith) s) (a + 1) link p l

small_unqueue : {m : List ℕ} → Small m → (a p : ℕ) → Small (Model.unqueue m a p)
unfolding Wait.unqueue
small_unqueue s a p = small_leave (small_set a _ (omega arith) s) (a + 1) link p

pub small_wait : {m : List ℕ} → Small m → (a p w : ℕ) → p < word_values → w < word_values → Small (Model.put_to_wait m a p w)
unfolding Wait.put_to_wait
small_wait s a p w l u = small_enqueue (small_set (place p reason) w u (small_set (place p state) _ (omega (arith, s.at (place p state))) s)) a p l

pub small_wake : {m : List ℕ} → Small m → (a p : ℕ) → Small (Model.wake m a p)
unfolding Wait.wake
small_wake s a p =
    let t = small_unqueue s a p in
    small_set (place p reason) 0 (omega arith) (small_set (place p state) _ (omega (arith, t.at (place p state))) t)

-- ---- registers
pub small_registers : {m : List ℕ} → Small m → (p : ℕ) (r : Registers) → Small (Model.set_registers_of m p r)
unfolding Processor.set_registers_of Processor.set_flags_lr
small_registers {m} s p r =
    let t2 = small_set (place p word_s) (low r.s) (omega arith) (small_set (place p word_a) (low r.a) (omega arith) s) in
    let t3 = small_set (place p high_lr) (three_flags r.p r.z r.ci + high r.lr) (omega arith) t2 in
    let t4 = small_set (place p low_lr) (low r.lr) (omega arith) t3 in
    small_set (place p state) _ (omega (arith, t4.at (place p state))) t4

pub small_back : {m : List ℕ} → Small m → (p : ℕ) (r : Registers) → Small (Model.hand_back m p r)
unfolding Processor.hand_back
small_back s p r = small_set (place p state) _ (omega arith) (small_registers s p r)

-- ---- pages
pub small_free : {m : List ℕ} → Small m → (q : ℕ) → Small (Model.take_free m q)
unfolding Page.take_free
small_free s q = small_leave (small_set free_semaphore _ (omega arith) s) free_list link q

-- a page taken, and the memory without it
pub record Light (t : Taken (List ℕ)) : Type 0 where
  pub page : ℕ
  pub memory : List ℕ
  pub is : t ≡ took page memory
  pub few : page < word_values
  pub small : Small memory

light : {m : List ℕ} (q : ℕ) → q < word_values → Small m → Light (took q m)
light {m} q l s = record { page = q; memory = m; is = refl; few = l; small = s }

pub small_take : {m : List ℕ} → Small m → (p : ℕ) → Light (Model.take_page m p)
unfolding Page.take_page Page.first_free
small_take {m} s p =
    let a = grant_for (name m p) in
    either Light (eqb (get_or m a 0) 0)
    (either Light (eqb (get_or m free_list 0) 0) (light 0 (omega arith) s) (light (get_or m free_list 0) (s.at free_list) (small_free s (get_or m free_list 0))))
    (light (get_or m a 0) (s.at a) (small_set a 0 (omega arith) s))

pub small_give : {m : List ℕ} → Small m → (q : ℕ) → q < word_values → Small (Model.give_back m q)
unfolding Page.give_back Page.free_page Page.grant_page
small_give {m} s q l =
    either Small (eqb (get_or m page_queue 0) 0) (small_join (small_set free_semaphore _ (omega arith) s) free_list link q l)
    (small_wake (small_set _ q l s) free_semaphore (get_or m page_queue 0))

-- ---- mail
pub small_deliver : {m : List ℕ} → Small m → (p q : ℕ) → q < word_values → Small (Model.deliver m p q)
unfolding Mail.deliver Mail.heard
small_deliver {m} s p q l =
    let t = small_join s (place p q1) link q l in
    either Small (Model.awaits (Model.join m (place p q1) link q) p q) (small_wake t (place p own_semaphore) p) t

pub small_notice : {m : List ℕ} → Small m → (q n f : ℕ) → n < 16 → f < 16 → Small (Model.make_notice m q n f)
unfolding Mail.make_notice
small_notice s q n f l u = small_set (place q size) notice (omega arith) (small_set (place q note) (pair n f) (omega arith) s)

pub small_message : {m : List ℕ} → Small m → (q f a l : ℕ) → f < 16 → l < word_values → Small (Model.write_message m q f a l)
unfolding Mail.write_message
small_message s q f a l i j = small_copy l a (place q text) (small_set (place q size) l j (small_set (place q note) _ (omega arith) s))

pub small_move : {m : List ℕ} → Small m → (p q : ℕ) → q < word_values → Small (Model.move m p q)
unfolding Mail.move
small_move s p q l = small_join (small_leave s (place p q1) link q) (place p q2) link q l

-- "Q1 messages tested, the found one too, go to Q2 in order": what the first of Q1, moved, keeps, testing keeps
pub record Tried (G : List ℕ → Type 0) (t : Tested (List ℕ)) : Type 0 where
  pub found : Bool
  pub memory : List ℕ
  pub is : t ≡ tested found memory
  pub kept : G memory

module _ (G : List ℕ → Type 0) (p : ℕ) (moves : (m : List ℕ) → G m → word m p q1 ≢ 0 → G (Model.move m p (word m p q1))) where
  tried : (c : Bool) (m : List ℕ) → G m → Tried G (tested c m)
  tried c m t = record { found = c; memory = m; is = refl; kept = t }

  pub test_kept : (k : ℕ) (m : List ℕ) (n f : ℕ) → G m → Tried G (Model.test_q1 k m p n f)
  unfolding Mail.test_q1
  test_kept zero m n f t = tried false m t
  test_kept (suc k) m n f t =
      go (eqb (word m p q1) 0) (Model.matches m n f (word m p q1)) refl refl (λ m' u. test_kept k m' n f u)
    where
      go : (c d : Bool) → eqb (word m p q1) 0 ≡ c → Model.matches m n f (word m p q1) ≡ d
          → ((m' : List ℕ) → G m' → Tried G (Model.test_q1 k m' p n f)) → Tried G (Model.test_q1 (suc k) m p n f)
      go true d e g ih = let q : Model.test_q1 (suc k) m p n f ≡ tested false m = rw (e, Mail.test_q1) in rw q (tried false m t)
      go false true e g ih =
          let m1 = Model.move m p (word m p q1) in
          let q : Model.test_q1 (suc k) m p n f ≡ tested true (Model.move m p (word m p q1)) = rw (e, g, Mail.test_q1) in
          rw q (tried true m1 (moves m t (eqb-false (word m p q1) 0 e)))
      go false false e g ih =
          let m1 = Model.move m p (word m p q1) in
          let q : Model.test_q1 (suc k) m p n f ≡ Model.test_q1 k (Model.move m p (word m p q1)) p n f = rw (e, g, Mail.test_q1) in
          rw q (ih m1 (moves m t (eqb-false (word m p q1) 0 e)))

pub small_test : (k : ℕ) {m : List ℕ} (p n f : ℕ) → Small m → Tried Small (Model.test_q1 k m p n f)
small_test k {m} p n f s = test_kept Small p (λ x t d. small_move t p (word x p q1) (t.at (place p q1))) k m n f s

pub small_out : {m : List ℕ} → Small m → (q a : ℕ) → Small (Model.copy_out m q a)
unfolding Mail.copy_out
small_out {m} s q a =
    small_copy (length_of m q) (place q text) (wrapped a head_words)
    (small_set (wrapped a 2) _ (omega arith) (small_set (wrapped a 1) _ (omega arith) (small_set a _ (omega (arith, s.at (place q note))) s)))

-- ---- deleting
pub small_unlisted : {m : List ℕ} → Small m → (p : ℕ) → Small (Model.unlisted m p)
unfolding Delete.unlisted Wait.leave_wait
small_unlisted {m} s p =
    small_leave (either Small (Model.queued m (Model.seat interrupts m p) p) (small_unqueue s (Model.seat interrupts m p) p) s) processor_list list_link p

-- what is marked is below 64 before
small_marked : {m : List ℕ} → Small m → (n q : ℕ) → Small (Model.marked m n q)
unfolding Delete.marked Delete.sent_by
small_marked {m} s n q = go (is_unmarked (word m q size)) refl
  where
    go : (c : Bool) → is_unmarked (word m q size) ≡ c → Small (Model.marked m n q)
    go true e =
        let l = ltb-true (word m q size) mark e in
        rw e (either Small (eqb (upper (word m q note)) n) (small_set (place q size) (mark_added (word m q size)) (omega arith) s) s)
    go false e = rw e s

-- a walk that does g, for the name n, with every page that it meets along links in word k
pub record Meets (f : ℕ → List ℕ → ℕ → ℕ → List ℕ) (g : List ℕ → ℕ → ℕ → List ℕ) (k : ℕ) : Type 0 where
  pub ends : (m : List ℕ) (n a : ℕ) → f zero m n a ≡ m
  pub goes : (i : ℕ) (m : List ℕ) (n a : ℕ)
      → f (suc i) m n a ≡ elim (eqb (get_or m a 0) 0) [ true ↦ m | false ↦ f i (g m n (get_or m a 0)) n (place (get_or m a 0) k) ]

module _ {f : ℕ → List ℕ → ℕ → ℕ → List ℕ} {g : List ℕ → ℕ → ℕ → List ℕ} {k : ℕ} (w : Meets f g k) where
  pub meets_none : (i : ℕ) (m : List ℕ) (n a : ℕ) → get_or m a 0 ≡ 0 → f i m n a ≡ m
  meets_none zero m n a e = w.ends m n a
  meets_none (suc i) m n a e = rw (w.goes i m n a, eq-eqb (get_or m a 0) 0 e)

  pub meets_next : (i : ℕ) (m : List ℕ) (n a x : ℕ) → get_or m a 0 ≡ x → x ≢ 0 → f (suc i) m n a ≡ f i (g m n x) n (place x k)
  meets_next i m n a x e d = let z : get_or m a 0 ≢ 0 = λ h. d (sym e ∙ h) in rw (w.goes i m n a, ne_eqb (get_or m a 0) 0 z, e)

  small_meets : ((m : List ℕ) (n q : ℕ) → Small m → Small (g m n q)) → (i : ℕ) (m : List ℕ) (n a : ℕ) → Small m → Small (f i m n a)
  small_meets h zero m n a s = rw (w.ends m n a) s
  small_meets h (suc i) m n a s = go (hit_or (get_or m a 0) 0) (λ x. small_meets h i (g m n x) n (place x k) (h m n x s))
    where
      go : (get_or m a 0 ≡ 0) ⊎ (get_or m a 0 ≢ 0) → ((x : ℕ) → Small (f i (g m n x) n (place x k))) → Small (f (suc i) m n a)
      go (inl e) ih = rw (meets_none (suc i) m n a e) s
      go (inr d) ih = rw (meets_next i m n a (get_or m a 0) refl d) (ih (get_or m a 0))

pub marks_messages : Meets Model.marked_from Model.marked link
unfolding Delete.marked_from
marks_messages = record { ends = λ m n a. refl; goes = λ i m n a. refl }

pub marks_processors : Meets Model.all_marked Model.mail_marked list_link
unfolding Delete.all_marked
marks_processors = record { ends = λ m n a. refl; goes = λ i m n a. refl }

small_marks : (m : List ℕ) (n a : ℕ) → Small m → Small (Model.marked_from control_pages m n a)
small_marks = small_meets marks_messages (λ m n q s. small_marked s n q) control_pages

small_mail : (m : List ℕ) (n p : ℕ) → Small m → Small (Model.mail_marked m n p)
unfolding Delete.mail_marked
small_mail m n p s = small_marks (Model.marked_from control_pages m n (place p q1)) n (place p q2) (small_marks m n (place p q1) s)

small_sent : {m : List ℕ} → Small m → (n p : ℕ) → Small (Model.sent_marked m n p)
unfolding Delete.sent_marked
small_sent {m} s n p =
    small_mail (Model.all_marked control_pages m n processor_list) n p (small_meets marks_processors small_mail control_pages m n processor_list s)

small_returned : {m : List ℕ} → Small m → (n q : ℕ) → n < 16 → q < word_values → Small (Model.returned m n q)
unfolding Delete.returned Delete.noticed
small_returned {m} s n q l u =
    let f = lower (word m q note) in
    let p = Model.page_of m (upper (word m q note)) in
    either Small (is_unmarked (word m q size))
    (either Small (eqb p 0) (small_give s q u) (small_deliver (small_notice s q n f l (omega arith)) p q u)) (small_give s q u)

small_emptied : (i : ℕ) {m : List ℕ} (n h : ℕ) → n < 16 → Small m → Small (Model.emptied i m n h)
unfolding Delete.emptied
small_emptied zero n h l s = s
small_emptied (suc i) {m} n h l s =
    go (eqb (get_or m h 0) 0) refl (small_emptied i n h l (small_returned (small_leave s h link (get_or m h 0)) n (get_or m h 0) l (s.at h)))
  where
    go : (c : Bool) → eqb (get_or m h 0) 0 ≡ c → Small (Model.emptied i (Model.returned (Model.leave m h link (get_or m h 0)) n (get_or m h 0)) n h)
        → Small (Model.emptied (suc i) m n h)
    go true e ih = let q : Model.emptied (suc i) m n h ≡ m = rw (e, Delete.emptied) in rw q s
    go false e ih =
        let q : Model.emptied (suc i) m n h ≡ Model.emptied i (Model.returned (Model.leave m h link (get_or m h 0)) n (get_or m h 0)) n h = rw (e, Delete.emptied)
        in rw q ih

pub small_delete : {m : List ℕ} → Small m → (p : ℕ) → p < word_values → Small (Model.delete m p)
unfolding Delete.delete Delete.mail_settled Delete.mail_returned Delete.grant_returned
small_delete {m} s p l =
    let n = name m p in
    let t = small_emptied control_pages n (place p q1) (omega arith) (small_emptied control_pages n (place p q2) (omega arith) (small_sent (small_unlisted s p)
    n p)) in
    let m1 = Model.mail_settled (Model.unlisted m p) n p in
    small_give (either Small (eqb (get_or m1 (grant_for n) 0) 0) t
    (small_give (small_set (grant_for n) 0 (omega arith) t) (get_or m1 (grant_for n) 0) (t.at (grant_for n)))) p l

-- ---- interrupts
small_struck : {m : List ℕ} → Small m → (k c p : ℕ) → c < word_values → Small (Model.struck m k c p)
unfolding Interrupt.struck Interrupt.classed
small_struck {m} s k c p l =
    let t = small_wake s (semaphore_of k) p in
    either Small (eqb (word m p reason) 1) (either Small (ltb k first_classed) t (either Small (ltb last_outer k) t (small_set (place p word_a) c l t)))
    (small_set (place p reason) _ (omega arith) s)

small_from : (n : ℕ) {m : List ℕ} (k c p : ℕ) → c < word_values → Small m → Small (Model.served_from n m k c p)
unfolding Interrupt.served_from
small_from zero k c p l s = s
small_from (suc n) {m} k c p l s = go (eqb p 0) refl (small_from n k c (word m p link) l (small_struck s k c p l))
  where
    go : (x : Bool) → eqb p 0 ≡ x → Small (Model.served_from n (Model.struck m k c p) k c (word m p link)) → Small (Model.served_from (suc n) m k c p)
    go true e ih = let q : Model.served_from (suc n) m k c p ≡ m = rw (e, Interrupt.served_from) in rw q s
    go false e ih =
        let q : Model.served_from (suc n) m k c p ≡ Model.served_from n (Model.struck m k c p) k c (word m p link) = rw (e, Interrupt.served_from)
        in rw q ih

pub small_serve : {m : List ℕ} → Small m → (k c : ℕ) → c < word_values → Small (Model.serve m k c)
unfolding Interrupt.serve
small_serve {m} s k c l = small_from control_pages k c (get_or m (header_of k) 0) l s

small_turns : {m : List ℕ} → Small m → (c k : ℕ) → Small (Model.turns m c k)
unfolding Interrupt.turns
small_turns s c k = small_serve (small_set c 0 (omega arith) s) k 0 (omega arith)

small_counts : {m : List ℕ} → Small m → (c : ℕ) → Small (Model.counts m c)
unfolding Interrupt.counts
small_counts s c = small_set c _ (omega arith) s

small_c3 : {m : List ℕ} → Small m → Small (Model.c3_counts m)
unfolding Interrupt.c3_counts
small_c3 {m} s = either Small (Model.ends m c3 c3_end) (small_turns s c3 c3_interrupt) (small_counts s c3)

small_c2 : {m : List ℕ} → Small m → Small (Model.c2_counts m)
unfolding Interrupt.c2_counts
small_c2 {m} s = either Small (Model.ends m c2 c2_end) (small_c3 (small_turns s c2 c2_interrupt)) (small_counts s c2)

small_c1 : {m : List ℕ} → Small m → Small (Model.c1_counts m)
unfolding Interrupt.c1_counts
small_c1 {m} s = either Small (Model.ends m c1 c1_end) (small_c2 (small_turns s c1 c1_interrupt)) (small_counts s c1)

small_c0 : {m : List ℕ} → Small m → Small (Model.c0_counts m)
unfolding Interrupt.c0_counts
small_c0 {m} s = either Small (Model.ends m c0 (get_or m divider 0)) (small_c1 (small_turns s c0 c0_interrupt)) (small_counts s c0)

pub small_delivered : {m : List ℕ} → Small m → (k c : ℕ) → c < word_values → Small (Model.delivered m k c)
unfolding Interrupt.delivered
small_delivered {m} s k c l = let t = small_serve s k c l in either Small (eqb k (get_or m clock_line 0)) (small_c0 t) t

-- ---- who runs
small_kept : (n : ℕ) {m : List ℕ} (p : ℕ) (w : List ℕ) → ((i : ℕ) → get_or w i 0 < word_values) → Small m → Small (Model.kept n m p w)
unfolding Turn.kept
small_kept zero p w f s = s
small_kept (suc n) p w f s = small_kept n p w f (small_set (place p (keeps n)) (get_or w n 0) (f n) s)

small_restored : (n : ℕ) {m : List ℕ} (w : List ℕ) → ((i : ℕ) → get_or w i 0 < word_values) → Small m → Small (Model.restored n m w)
unfolding Turn.restored
small_restored zero w f s = s
small_restored (suc n) w f s = small_restored n w f (small_set _ (get_or w n 0) (f n) s)

few_get_or : (xs : List ℕ) → Few xs → (i : ℕ) → get_or xs i 0 < word_values
few_get_or [] f i = omega arith
few_get_or (x ∷ xs) f zero = f.0
few_get_or (x ∷ xs) f (suc i) = few_get_or xs f.1 i

few_nineteen : (f : ℕ → ℕ) → ((i : ℕ) → f i < word_values) → Few (Turn.nineteen f)
few_nineteen f h =
    (h 0, (h 1, (h 2, (h 3, (h 4, (h 5, (h 6, (h 7, (h 8, (h 9, (h 10, (h 11, (h 12, (h 13, (h 14, (h 15, (h 16, (h 17, (h 18, tt)))))))))))))))))))

few_fold : {m : List ℕ} → Small m → (b : ℕ) (xs : List ℕ) → b < word_values → Few xs → fold (Model.better m) b xs < word_values
unfolding Turn.fold Turn.better
few_fold s b [] l f = l
few_fold {m} s b (x ∷ xs) l f =
    few_fold s (Model.better m b x) xs
    (either (λ (y : ℕ). y < word_values) (ltb (word m x state) wait_bit) (either (λ (y : ℕ). y < word_values) (Model.above m b x) f.0 l) l) f.1

pub few_chosen : {m : List ℕ} → Small m → Model.chosen m < word_values
unfolding Turn.chosen Turn.stays
few_chosen {m} s =
    let r = running m in
    few_fold s (Model.stays m r) (Model.processors m)
    (either (λ (y : ℕ). y < word_values) (eqb r 0) (omega arith)
    (either (λ (y : ℕ). y < word_values) (ltb (word m r state) wait_bit) (s.at running_page) (omega arith)))
    (few_walk control_pages list_link processor_list s)

pub small_turn : {m : List ℕ} → Small m → Small (Model.who_runs m)
unfolding Turn.who_runs Turn.switch Turn.runs Turn.save Turn.load Turn.on_page0 Turn.kept_on
small_turn {m} s =
    let r = running m in
    let t = Model.chosen m in
    let s1 : Small (Model.save m r) = either Small (eqb r 0) s
    (small_kept kept_count r (Model.on_page0 m) (few_get_or (Model.on_page0 m) (few_nineteen (λ i. get_or m (zero_place i) 0) (λ i. s.at (zero_place i)))) s) in
    let s2 : Small (Model.load (Model.save m r) t) = either Small (eqb t 0) s1
    (small_restored kept_count (Model.kept_on (Model.save m r) t) (few_get_or (Model.kept_on (Model.save m r) t)
    (few_nineteen (λ i. word (Model.save m r) t (keeps i)) (λ i. s1.at (place t (keeps i))))) s1) in
    either Small (eqb r t) s
    (small_set running_label _ (either (λ (y : ℕ). y < word_values) (eqb t 0) (omega arith) (s2.at (place t label))) (small_set running_page t (few_chosen s) s2))

-- ---- a fresh start
small_chained : (n : ℕ) {m : List ℕ} (p : ℕ) → p + n < word_values → Small m → Small (Model.chained n m p)
unfolding Fresh.chained
small_chained zero p l s = s
small_chained (suc n) p l s = small_chained n (p + 1) (omega arith) (small_set (place p link) (p + 1) (omega arith) s)

small_built : (n : ℕ) {m : List ℕ} → Small m → Small (Model.all_built_in n m)
unfolding Fresh.all_built_in
small_built zero s = s
small_built (suc n) s = small_built n (small_set (code_word n) (topped built_in 0) (omega arith) s)

pub small_started : {m : List ℕ} → Small m → (line d : ℕ) → line < word_values → d < word_values → Small (Model.started m line d)
unfolding Fresh.started Fresh.freed Fresh.first_processor Fresh.timed Fresh.cleared Turn.runs
small_started s line d l u =
    let t = small_zeroed (control_pages * page_size) guarded_last (small_zeroed (kernel_pages * page_size) (place interrupt_page 0) (small_zeroed page_size 0 s)) in
    let t1 = small_set divider d u (small_set clock_line line l t) in
    let t2 = small_set (place first_control label) (pair first_priority first_name) (omega arith) t1 in
    let t3 = small_set processor_list first_control (omega arith) (small_back t2 first_control _) in
    let t4 = small_set running_label _ (t3.at (place first_control label)) (small_set running_page first_control (omega arith) t3) in
    let t5 = small_set free_semaphore (control_pages - 1) (omega arith) (small_set free_list (first_control + 1) (omega arith) t4) in
    small_set first_unused 1 (omega arith) (small_built built_in_codes (small_chained (control_pages - 2) (first_control + 1) (omega arith) t5))
