-- What the memory holds after a page joined or left a list with links in word 0, and after a grant; and which words those steps leave. Assumes nothing.
use Rattle.std.specs.Prelude.{◌≡◌, refl, ◌≢◌, ◌⊎◌, List, [], ◌∷◌, ◌++◌, ℕ, ◌≤◌, ◌<◌, length, get_or, set}
use Rattle.std.proofs.Common.{sym, ap, ◌∙◌, inl, inr, arith, length-set, length-append, get_or-set_same}
use Rattle.model.specs.Map as Map
use Rattle.model.specs.Map.{clock_line, code_word, divider, free_semaphore, grant_for, grants, guarded_last, interrupts, label, link, list_link, note}
use Rattle.model.specs.Map.{own_queue, own_semaphore, page_size, place, processor_list, q2, reason, running_page, semaphore_after, state}
use Rattle.model.specs.Bytes.{store, word, join, leave}
use Rattle.model.specs.Lists.{count, Lists, some, link_of, is_grant}
use Rattle.laws.specs.Count.{hit_self, hit_or, count_append, zero_or, count_mid}
use Rattle.laws.specs.Chain.{Page, Chain, chain_move, last, last_in, last_not, join_is, leave_is, off_page}
use Rattle.laws.specs.Queues.{upd, upd_same, upd_other, link_le, link_procs, link_other, rep_join, rep_leave}
use Rattle.laws.specs.Heads.{Place, Seat, seat_of}
use Rattle.laws.specs.Heads.Place.{int, three, grant, slot}
use Rattle.laws.specs.Heads.Seat.{line, page, own}
use Rattle.laws.specs.Uses.{Head, head_place, Sep, proc_page, list_short, good, apart, single}
use Rattle.laws.specs.Places.{grant_is, all_pages_lem}
use Rattle.laws.specs.Inv.{View, Reads, Mem}
use Rattle.laws.specs.Frames.{other}
use Rattle.laws.specs.Stores.{words_off, fixed_off}

-- ---- a cell is no judged word
pub record Unread (b : ℕ) : Type 0 where
  pub page : (p j : ℕ) → Page p → list_link ≤ j → j ≤ own_semaphore → place p j ≢ b
  pub high : (p j : ℕ) → Page p → label ≤ j → j < page_size → place p j ≢ b
  pub clock : (a : ℕ) → clock_line ≤ a → a ≤ Map.c3 → a ≢ b
  pub turn : (a : ℕ) → running_page ≤ a → a ≤ divider → a ≢ b
  pub asking : free_semaphore ≢ b
  pub line : (k : ℕ) → k < interrupts → semaphore_after k ≢ b
  pub rest : (a : ℕ) → code_word 0 ≤ a → a < grants → a ≢ b

pub reads_unread : {m : List ℕ} {ps : List ℕ} {L : Lists} {W : View} (b v : ℕ) → Sep ps L → Unread b → Reads m ps W → Reads (set m b v) ps W
reads_unread {m} {ps} {L} {W} b v s u r = record {
  words = words_off b v (λ p h. u.page p note h (omega arith) (omega arith)) (λ p h. u.page p reason h (omega arith) (omega arith))
      (λ p h. u.high p label h (omega arith) (omega arith)) (λ p h. u.high p state h (omega arith) (omega arith)) r.words;
  fixed = fixed_off b v u.clock u.turn u.rest r.fixed;
  sems = λ a h. other m b v a (sem a (seat_of ps a h)) ∙ r.sems a h;
}
  where
    sem : (a : ℕ) → Seat ps a → a ≢ b
    sem a (line k i e) = rw e (u.line k i)
    sem a (page e) = rw e u.asking
    sem a (own p i e) = rw e (u.page p own_semaphore (proc_page s p i) (omega arith) (omega arith))

unread_word : (x j b : ℕ) → Page x → j ≤ q2 → (list_link ≤ j → own_queue ≤ j) → b ≡ place x j → Unread b
unread_word x j b g u n e = record {
  page = λ p k h i v. go p k h i v (zero_or j);
  high = λ c1 c2 c3 c4 c5. omega arith;
  clock = λ c1 c2 c3. omega arith;
  turn = λ c1 c2 c3. omega arith;
  asking = omega arith;
  line = λ c1 c2. omega arith;
  rest = λ c1 c2 c3. omega arith;
}
  where
    go : (p k : ℕ) → Page p → list_link ≤ k → k ≤ own_semaphore → (j ≡ link) ⊎ (list_link ≤ j) → place p k ≢ b
    go p k h i v (inl z) = omega arith
    go p k h i v (inr l) = let d = n l in omega arith

pub unread_link : (x b : ℕ) → Page x → b ≡ place x link → Unread b
unread_link x b g e = unread_word x link b g (omega arith) (λ i. absurd (omega arith)) e

unread_low : (b : ℕ) → b < guarded_last → ((a : ℕ) → clock_line ≤ a → a ≤ Map.c3 → a ≢ b) → ((a : ℕ) → running_page ≤ a → a ≤ divider → a ≢ b) → free_semaphore ≢ b
    → ((k : ℕ) → k < interrupts → semaphore_after k ≢ b) → ((a : ℕ) → code_word 0 ≤ a → a < grants → a ≢ b) → Unread b
unread_low b u c t a l r = record {
  page = λ c1 c2 c3 c4 c5. omega arith;
  high = λ c1 c2 c3 c4 c5. omega arith;
  clock = c;
  turn = t;
  asking = a;
  line = l;
  rest = r;
}

pub unread_place : {ps : List ℕ} {L : Lists} → Sep ps L → (b : ℕ) → Place ps b → Unread b
unread_place s b (int n hn e) =
    unread_low b (omega arith) (λ c1 c2 c3. omega arith) (λ c1 c2 c3. omega arith) (omega arith) (λ c1 c2. omega arith) (λ c1 c2 c3. omega arith)
unread_place s b (three x y z) =
    unread_low b (omega arith) (λ c1 c2 c3. omega arith) (λ c1 c2 c3. omega arith) (omega arith) (λ c1 c2. omega arith) (λ c1 c2 c3. omega arith)
unread_place s b (grant x y) =
    unread_low b (omega arith) (λ c1 c2 c3. omega arith) (λ c1 c2 c3. omega arith) (omega arith) (λ c1 c2. omega arith) (λ c1 c2 c3. omega arith)
unread_place s b (slot t) = unread_word t.page t.word b (proc_page s t.page t.proc) (omega arith) (λ i. omega arith) t.is

-- ---- a list with links in word 0
module _ {m : List ℕ} {ps : List ℕ} {L : Lists} {W : View} (s : Sep ps L) (x : Mem m ps L W) (a : ℕ) (ha : Head ps a) (na : a ≢ processor_list) where
  l0 : link_of a ≡ 0
  l0 = link_other a na

  pub chain0 : Chain m link a (L a)
  chain0 = rw l0 at (x.holds.rep a ha)

  -- the cell that ends the part xs of the list
  last_unread : (xs : List ℕ) → ((z : ℕ) → 1 ≤ count z xs → 1 ≤ count z (L a)) → Unread (last link a xs)
  last_unread [] f = unread_place s a (head_place ps a ha.0)
  last_unread (y ∷ ys) f =
      let r = last_in 0 a y ys in
      unread_link r.0 (last link a (y ∷ ys)) (all_pages_lem s a r.0 ha.0 (f r.0 r.1)) r.2

  not_grant : (k : ℕ) → k < page_size → a ≢ grant_for k
  not_grant k h e = let z : ◌≡◌ {A = ℕ} 0 1 = cc (ha.1, grant_is k h, ap is_grant e) in omega arith

  last_grant : (xs : List ℕ) → ((z : ℕ) → 1 ≤ count z xs → 1 ≤ count z (L a)) → (k : ℕ) → k < page_size → grant_for k ≢ last link a xs
  last_grant xs f k h = last_not link a xs (grant_for k) (λ e. not_grant k h (sym e)) (λ z i. let g = all_pages_lem s a z ha.0 (f z i) in omega arith)

  module _ (p : ℕ) (g : Page p) (new : (b : ℕ) → Head ps b → b ≢ processor_list → count p (L b) ≡ 0) where
    join_eq : join m a link p ≡ set (store m p link 0) (last link a (L a)) p
    join_eq =
        join_is m 0 a p (L a) chain0 (list_short s a ha.0) ((good s a ha).free p 0 g.0 (omega arith))
        (off_page p 0 0 (L a) (omega arith) (omega arith) (new a ha na))

    pub join_mem : Mem (join m a link p) ps (upd L a (L a ++ p ∷ [])) W
    join_mem =
        let m1 = store m p link 0 in
        let c : ℕ = last link a (L a) in
        let np : (b : ℕ) → link_of b ≡ link_of a → b ≢ processor_list = λ b q f. (let z = link_procs in omega (arith, ap link_of f, l0)) in
        rw join_eq (record {
          size = simp length-set x.size;
          holds = record {
            rep = rw l0 at (rep_join m (Head ps) L x.size (good s) (apart s) (single s) x.holds.rep a p ha g (λ b hb q. new b hb (np b q)));
            grant = λ k h.
                rw (
                  upd_other L a (grant_for k) (L a ++ p ∷ []) (λ f. not_grant k h (sym f)),
                  other m1 c p (grant_for k) (last_grant (L a) (λ z i. i) k h),
                  other m (place p link) 0 (grant_for k) (omega arith),
                ) (x.holds.grant k h);
          };
          reads = reads_unread c p s (last_unread (L a) (λ z i. i)) (reads_unread (place p link) 0 s (unread_link p (place p link) g refl) x.reads);
        })

    pub join_frame : (b : ℕ) → b ≢ a → ((z : ℕ) → 1 ≤ count z (L a) → b ≢ place z link) → b ≢ place p link → get_or (join m a link p) b 0 ≡ get_or m b 0
    join_frame b n o d =
        rw join_eq (other (store m p link 0) (last link a (L a)) p b (last_not link a (L a) b n o) ∙ other m (place p link) 0 b d)

  module _ (p : ℕ) (xs ys : List ℕ) (e : L a ≡ xs ++ p ∷ ys) where
    part : (z : ℕ) → 1 ≤ count z xs → 1 ≤ count z (L a)
    part z i = rw e (omega (arith, count_append z xs (p ∷ ys)))

    pub left_in : 1 ≤ count p (L a)
    left_in = rw e (count_mid p xs ys)

    leave_eq : leave m a link p ≡ store (set m (last link a xs) (word m p link)) p link 0
    leave_eq =
        leave_is m 0 a p xs ys (rw e at chain0) (omega (arith, list_short s a ha.0, ap length e, length-append xs (p ∷ ys)))
        (omega (arith, single s a ha p, ap (count p) e, count_append p xs (p ∷ ys), hit_self p))

    pub leave_mem : Mem (leave m a link p) ps (upd L a (xs ++ ys)) W
    leave_mem =
        let c : ℕ = last link a xs in
        let v = word m p link in
        let m1 = set m c v in
        let g = all_pages_lem s a p ha.0 left_in in
        rw leave_eq (record {
          size = simp length-set x.size;
          holds = record {
            rep = rw l0 at (rep_leave m (Head ps) L x.size (good s) (apart s) (single s) x.holds.rep a p xs ys ha e);
            grant = λ k h.
                rw (
                  upd_other L a (grant_for k) (xs ++ ys) (λ f. not_grant k h (sym f)),
                  other m1 (place p link) 0 (grant_for k) (omega arith),
                  other m c v (grant_for k) (last_grant xs part k h),
                ) (x.holds.grant k h);
          };
          reads = reads_unread (place p link) 0 s (unread_link p (place p link) g refl) (reads_unread c v s (last_unread xs part) x.reads);
        })

    pub leave_frame : (b : ℕ) → b ≢ a → ((z : ℕ) → 1 ≤ count z (L a) → b ≢ place z link) → get_or (leave m a link p) b 0 ≡ get_or m b 0
    leave_frame b n o =
        rw leave_eq (other (set m (last link a xs) (word m p link)) (place p link) 0 b (o p left_in)
        ∙ other m (last link a xs) (word m p link) b (last_not link a xs b n (λ z i. o z (part z i))))

-- ---- a word of page 10
pub grant_mem : {m : List ℕ} {ps : List ℕ} {L : Lists} {W : View} (k q : ℕ) → k < page_size → Sep ps L → Mem m ps L W
    → Mem (set m (grant_for k) q) ps (upd L (grant_for k) (some q)) W
grant_mem {m} {ps} {L} {W} k q h s x = record {
  size = simp length-set x.size;
  holds = record {
    rep = λ a ha. let n = far a ha in
        rw (upd_other L (grant_for k) a (some q) n) (chain_move m (set m (grant_for k) q) (link_of a) a a (L a) (other m (grant_for k) q a n)
        (λ z i. let g = all_pages_lem s a z ha.0 i in other m (grant_for k) q (place z (link_of a)) (omega (arith, link_le a))) (x.holds.rep a ha));
    grant = λ j i. go j i (hit_or j k);
  };
  reads = reads_unread (grant_for k) q s (unread_place s (grant_for k) (grant (omega arith) (omega arith))) x.reads;
}
  where
    far : (a : ℕ) → Head ps a → a ≢ grant_for k
    far a ha e = let z : ◌≡◌ {A = ℕ} 0 1 = cc (ha.1, grant_is k h, ap is_grant e) in omega arith

    go : (j : ℕ) → j < page_size → (j ≡ k) ⊎ (j ≢ k) → upd L (grant_for k) (some q) (grant_for j) ≡ some (get_or (set m (grant_for k) q) (grant_for j) 0)
    go j i (inl e) = rw (e, upd_same, get_or-set_same m (grant_for k) q 0 (omega (arith, x.size)))
    go j i (inr n) = rw (upd_other L (grant_for k) (grant_for j) (some q) (omega arith), other m (grant_for k) q (grant_for j) (omega arith)) (x.holds.grant j i)
