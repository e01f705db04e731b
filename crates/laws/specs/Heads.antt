-- Well-formed: "every control page is used once". Sums over the heads of lists, which cells are heads, and that no list is longer than twenty.
-- Assumes nothing.
use Rattle.std.specs.Prelude.{◌≡◌, refl, ◌≢◌, ◌⊎◌, Bool, true, false, ◌&&◌, List, [], ◌∷◌, ◌++◌, ℕ, zero, suc, ◌+◌, ◌*◌, ◌≤◌, ◌<◌, length, eqb, leb, ltb}
use Rattle.std.proofs.Common.{sym, ap, inl, inr, arith, leb-true, ltb-true, le-leb, lt-ltb, subst}
use Rattle.model.specs.Map.{control_pages, first_control, free_list, free_semaphore, grants, grants_end, header_after, interrupts, last_control, own_queue}
use Rattle.model.specs.Map.{own_semaphore, page_queue, page_size, place, processor_list, q1, q2, semaphore_after, word_values}
use Rattle.model.specs.Lists.{hit, count, Lists, sum, range, mails, owns, uses, queues}
use Rattle.laws.specs.Count.{hit_le, hit_self, hit_other, hit_or, count_append, count_ne, one_hit, zero_or}
use Rattle.laws.specs.Chain.{Page}
use Rattle.laws.specs.Queues.{upd, upd_same, upd_other}

-- 1 for a control page
pub one : ℕ → ℕ
one z = hit (leb first_control z && ltb z (suc last_control))

pub one_page : (z : ℕ) → 1 ≤ one z → Page z
unfolding one
one_page z h = go (leb first_control z) (ltb z (suc last_control)) refl refl h
  where
    go : (s t : Bool) → leb first_control z ≡ s → ltb z (suc last_control) ≡ t → 1 ≤ hit (s && t) → Page z
    go true true e f h = (leb-true first_control z e, ltb-true z (suc last_control) f)
    go true false e f h = absurd (omega arith)
    go false t e f h = absurd (omega arith)

pub page_one : (z : ℕ) → Page z → one z ≡ 1
unfolding one
page_one z p = rw (le-leb first_control z p.0, lt-ltb z (suc last_control) p.1)

pub one_le : (z : ℕ) → one z ≤ 1
unfolding one
one_le z = hit_le (leb first_control z && ltb z (suc last_control))

-- every number is one's, or not
pub page_or : (z : ℕ) → Page z ⊎ (one z ≡ 0)
page_or z = go (zero_or (one z))
  where
    go : (one z ≡ 0) ⊎ (1 ≤ one z) → Page z ⊎ (one z ≡ 0)
    go (inl e) = inr e
    go (inr i) = inl (one_page z i)

-- ---- sums
pub sum_one : (z : ℕ) (L : Lists) (a : ℕ) (hs : List ℕ) → 1 ≤ count a hs → count z (L a) ≤ sum z L hs
sum_one z L a [] h = absurd (omega arith)
sum_one z L a (b ∷ hs) h = go (hit_or a b) (sum_one z L a hs)
  where
    go : (a ≡ b) ⊎ (a ≢ b) → (1 ≤ count a hs → count z (L a) ≤ sum z L hs) → count z (L a) ≤ sum z L (b ∷ hs)
    go (inl e) ih = rw e (omega arith)
    go (inr n) ih = omega (arith, ih (omega (arith, hit_other a b n)))

pub sum_two : (z : ℕ) (L : Lists) (a b : ℕ) (hs : List ℕ) → a ≢ b → 1 ≤ count a hs → 1 ≤ count b hs → count z (L a) + count z (L b) ≤ sum z L hs
sum_two z L a b [] n i j = absurd (omega arith)
sum_two z L a b (c ∷ hs) n i j = go (hit_or a c) (hit_or b c) (sum_two z L a b hs n)
  where
    go : (a ≡ c) ⊎ (a ≢ c) → (b ≡ c) ⊎ (b ≢ c) → (1 ≤ count a hs → 1 ≤ count b hs → count z (L a) + count z (L b) ≤ sum z L hs)
        → count z (L a) + count z (L b) ≤ sum z L (c ∷ hs)
    go (inl e) (inl f) ih = absurd (omega arith)
    go (inl e) (inr f) ih = rw e (omega (arith, sum_one z L b hs (omega (arith, hit_other b c f))))
    go (inr e) (inl f) ih = rw f (omega (arith, sum_one z L a hs (omega (arith, hit_other a c e))))
    go (inr e) (inr f) ih = omega (arith, ih (omega (arith, hit_other a c e)) (omega (arith, hit_other b c f)))

-- a header that is not in the sum
pub sum_skip : (z : ℕ) (L : Lists) (a : ℕ) (xs : List ℕ) (hs : List ℕ) → count a hs ≡ 0 → sum z (upd L a xs) hs ≡ sum z L hs
sum_skip z L a xs [] h = refl
sum_skip z L a xs (b ∷ hs) h =
    let n = count_ne b a (b ∷ hs) h (omega (arith, hit_self b)) in
    rw (upd_other L a b xs n, sum_skip z L a xs hs (omega arith))

pub sum_upd : (z : ℕ) (L : Lists) (a : ℕ) (xs : List ℕ) (hs : List ℕ) → count a hs ≡ 1 → sum z (upd L a xs) hs + count z (L a) ≡ sum z L hs + count z xs
sum_upd z L a xs [] h = absurd (omega arith)
sum_upd z L a xs (b ∷ hs) h = go (hit_or a b) (sum_upd z L a xs hs)
  where
    go : (a ≡ b) ⊎ (a ≢ b) → (count a hs ≡ 1 → sum z (upd L a xs) hs + count z (L a) ≡ sum z L hs + count z xs)
        → sum z (upd L a xs) (b ∷ hs) + count z (L a) ≡ sum z L (b ∷ hs) + count z xs
    go (inl e) ih = rw (← e, upd_same L a xs, sum_skip z L a xs hs (omega (arith, ap (λ (y : ℕ). hit (eqb a y)) e, hit_self a))) (omega arith)
    go (inr n) ih = rw (upd_other L a b xs (λ e. n (sym e))) (omega (arith, ih (omega (arith, hit_other a b n))))

pub sum_ext : (z : ℕ) (L L' : Lists) (hs : List ℕ) → ((a : ℕ) → 1 ≤ count a hs → L a ≡ L' a) → sum z L hs ≡ sum z L' hs
sum_ext z L L' [] h = refl
sum_ext z L L' (a ∷ hs) h = rw (h a (omega (arith, hit_self a)), sum_ext z L L' hs (λ b i. h b (omega arith)))

tot : ℕ → List ℕ → ℕ
tot zero xs = 0
tot (suc n) xs = count n xs + tot n xs

tot_none : (n x : ℕ) → n ≤ x → tot n (x ∷ []) ≡ 0
unfolding tot
tot_none zero x h = refl
tot_none (suc n) x h = omega (arith, hit_other n x (omega arith), tot_none n x (omega arith))

tot_one : (n x : ℕ) → x < n → tot n (x ∷ []) ≡ 1
unfolding tot
tot_one zero x h = absurd (omega arith)
tot_one (suc n) x h = go (hit_or n x) (tot_one n x)
  where
    go : (n ≡ x) ⊎ (n ≢ x) → (x < n → tot n (x ∷ []) ≡ 1) → tot (suc n) (x ∷ []) ≡ 1
    go (inl e) ih = omega (arith, one_hit n x e, tot_none n x (omega arith))
    go (inr e) ih = omega (arith, hit_other n x e, ih (omega arith))

tot_cons : (n x : ℕ) (xs : List ℕ) → tot n (x ∷ xs) ≡ tot n (x ∷ []) + tot n xs
unfolding tot
tot_cons zero x xs = refl
tot_cons (suc n) x xs = omega (arith, tot_cons n x xs)

tot_length : (n : ℕ) (xs : List ℕ) → ((z : ℕ) → 1 ≤ count z xs → z < n) → length xs ≤ tot n xs
tot_length n [] h = omega arith
tot_length n (x ∷ xs) h = omega (arith, tot_cons n x xs, tot_one n x (h x (omega (arith, hit_self x))), tot_length n xs (λ z i. h z (omega arith)))

ones : ℕ → ℕ
unfolding one
ones zero = 0
ones (suc n) = one n + ones n

tot_ones : (n : ℕ) (xs : List ℕ) → ((z : ℕ) → count z xs ≤ one z) → tot n xs ≤ ones n
unfolding tot ones
tot_ones zero xs h = omega arith
tot_ones (suc n) xs h = omega (arith, h n, tot_ones n xs h)

ones_all : ones word_values ≡ control_pages
unfolding ones
ones_all = refl

pub short : (xs : List ℕ) → ((z : ℕ) → count z xs ≤ one z) → length xs ≤ control_pages
short xs h = omega (arith, tot_length word_values xs (λ z i. (one_page z (omega (arith, h z))).1), tot_ones word_values xs h, ones_all)

pub sum_pos : (z : ℕ) (L : Lists) (hs : List ℕ) → ((a : ℕ) → 1 ≤ count a hs → count z (L a) ≡ 0) → sum z L hs ≡ 0
sum_pos z L [] h = refl
sum_pos z L (a ∷ hs) h = omega (arith, h a (omega (arith, hit_self a)), sum_pos z L hs (λ b i. h b (omega arith)))

pub sum_append : (z : ℕ) (L : Lists) (hs ks : List ℕ) → sum z L (hs ++ ks) ≡ sum z L hs + sum z L ks
sum_append z L [] ks = omega arith
sum_append z L (a ∷ hs) ks = omega (arith, sum_append z L hs ks)

-- ---- which cells are heads
-- the words of page 10, and the headers of the interrupts
abbrev pub grant_words : List ℕ
grant_words = range page_size 1 grants

abbrev pub line_heads : List ℕ
line_heads = range interrupts 2 (header_after 0)

pub range_low : (n d a z : ℕ) → z < a → count z (range n d a) ≡ 0
unfolding range
range_low zero d a z h = refl
range_low (suc n) d a z h = omega (arith, hit_other z a (omega arith), range_low n d (a + d) z (omega arith))

pub range1_at : (n a z : ℕ) → a ≤ z → z < a + n → count z (range n 1 a) ≡ 1
unfolding range
range1_at zero a z h i = absurd (omega arith)
range1_at (suc n) a z h i = go (hit_or z a) (range1_at n (a + 1) z)
  where
    go : (z ≡ a) ⊎ (z ≢ a) → (a + 1 ≤ z → z < a + 1 + n → count z (range n 1 (a + 1)) ≡ 1) → count z (range (suc n) 1 a) ≡ 1
    go (inl e) ih = omega (arith, one_hit z a e, range_low n 1 (a + 1) z (omega arith))
    go (inr e) ih = omega (arith, hit_other z a e, ih (omega arith) (omega arith))

pub range1_of : (n a z : ℕ) → 1 ≤ count z (range n 1 a) → (a ≤ z) × (z < a + n)
unfolding range
range1_of zero a z h = absurd (omega arith)
range1_of (suc n) a z h = go (hit_or z a) (range1_of n (a + 1) z)
  where
    go : (z ≡ a) ⊎ (z ≢ a) → (1 ≤ count z (range n 1 (a + 1)) → (a + 1 ≤ z) × (z < a + 1 + n)) → (a ≤ z) × (z < a + suc n)
    go (inl e) ih = omega arith
    go (inr e) ih = let r = ih (omega (arith, hit_other z a e)) in omega arith

pub range2_at : (n a k : ℕ) → k < n → count (a + 2 * k) (range n 2 a) ≡ 1
unfolding range
range2_at zero a k h = absurd (omega arith)
range2_at (suc n) a zero h = omega (arith, one_hit (a + 2 * 0) a (omega arith), range_low n 2 (a + 2) (a + 2 * 0) (omega arith))
range2_at (suc n) a (suc k) h =
    let e : a + 2 * suc k ≡ a + 2 + 2 * k = omega arith in
    let P : ℕ → Type 0 = λ z. count z (range n 2 (a + 2)) ≡ 1 in
    let i : count (a + 2 * suc k) (range n 2 (a + 2)) ≡ 1 = subst P (sym e) (range2_at n (a + 2) k (omega arith)) in
    omega (arith, hit_other (a + 2 * suc k) a (omega arith), i)

pub range2_of : (n a z : ℕ) → 1 ≤ count z (range n 2 a) → (k : ℕ) × (k < n) × (z ≡ a + 2 * k)
unfolding range
range2_of zero a z h = absurd (omega arith)
range2_of (suc n) a z h = go (hit_or z a) (range2_of n (a + 2) z)
  where
    go : (z ≡ a) ⊎ (z ≢ a) → (1 ≤ count z (range n 2 (a + 2)) → (k : ℕ) × (k < n) × (z ≡ a + 2 + 2 * k)) → (k : ℕ) × (k < suc n) × (z ≡ a + 2 * k)
    go (inl e) ih = (0, omega arith, omega arith)
    go (inr e) ih = let r = ih (omega (arith, hit_other z a e)) in (suc r.0, omega (arith, r.1), omega (arith, r.2))

pub range_none1 : (n a z : ℕ) → a + n ≤ z → count z (range n 1 a) ≡ 0
range_none1 n a z h = go (zero_or (count z (range n 1 a)))
  where
    go : (count z (range n 1 a) ≡ 0) ⊎ (1 ≤ count z (range n 1 a)) → count z (range n 1 a) ≡ 0
    go (inl e) = e
    go (inr i) = let r = range1_of n a z i in absurd (omega arith)

pub range_none2 : (n a z : ℕ) → a + 2 * n ≤ z → count z (range n 2 a) ≡ 0
range_none2 n a z h = go (zero_or (count z (range n 2 a)))
  where
    go : (count z (range n 2 a) ≡ 0) ⊎ (1 ≤ count z (range n 2 a)) → count z (range n 2 a) ≡ 0
    go (inl e) = e
    go (inr i) = let r = range2_of n a z i in absurd (omega (arith, r.1, r.2))

-- words 5 and 6, and word 4
pub mails_at : (p w : ℕ) (ps : List ℕ) → q1 ≤ w → w ≤ q2 → count (place p w) (mails ps) ≡ count p ps
mails_at p w [] h i = refl
mails_at p w (x ∷ ps) h i = go (mails_at p w ps h i) (hit_or p x) (hit_or w q1)
  where
    go : count (place p w) (mails ps) ≡ count p ps → (p ≡ x) ⊎ (p ≢ x) → (w ≡ q1) ⊎ (w ≢ q1) → count (place p w) (mails (x ∷ ps)) ≡ count p (x ∷ ps)
    go ih (inl e) (inl f) = omega (arith, ih, one_hit p x e, one_hit (place p w) (place x q1) (omega arith), hit_other (place p w) (place x q2) (omega arith))
    go ih (inl e) (inr f) = omega (arith, ih, one_hit p x e, one_hit (place p w) (place x q2) (omega arith), hit_other (place p w) (place x q1) (omega arith))
    go ih (inr e) f = omega (arith, ih, hit_other p x e, hit_other (place p w) (place x q1) (omega arith), hit_other (place p w) (place x q2) (omega arith))

pub owns_at : (p : ℕ) (ps : List ℕ) → count (place p own_queue) (owns ps) ≡ count p ps
owns_at p [] = refl
owns_at p (x ∷ ps) = go (owns_at p ps) (hit_or p x)
  where
    go : count (place p own_queue) (owns ps) ≡ count p ps → (p ≡ x) ⊎ (p ≢ x) → count (place p own_queue) (owns (x ∷ ps)) ≡ count p (x ∷ ps)
    go ih (inl e) = omega (arith, ih, one_hit p x e, one_hit (place p own_queue) (place x own_queue) (omega arith))
    go ih (inr e) = omega (arith, ih, hit_other p x e, hit_other (place p own_queue) (place x own_queue) (omega arith))

-- word w of page p, which is a processor's
pub record Slot (ps : List ℕ) (lo hi a : ℕ) : Type 0 where
  pub page : ℕ
  pub proc : 1 ≤ count page ps
  pub word : ℕ
  pub low : lo ≤ word
  pub high : word ≤ hi
  pub is : a ≡ place page word

pub mails_of : (a : ℕ) (ps : List ℕ) → 1 ≤ count a (mails ps) → Slot ps q1 q2 a
mails_of a [] h = absurd (omega arith)
mails_of a (x ∷ ps) h = go (hit_or a (place x q1)) (hit_or a (place x q2)) (mails_of a ps)
  where
    go : (a ≡ place x q1) ⊎ (a ≢ place x q1) → (a ≡ place x q2) ⊎ (a ≢ place x q2) → (1 ≤ count a (mails ps) → Slot ps q1 q2 a) → Slot (x ∷ ps) q1 q2 a
    go (inl e) f ih = record { page = x; proc = omega (arith, hit_self x); word = q1; low = omega arith; high = omega arith; is = e }
    go (inr e) (inl f) ih = record { page = x; proc = omega (arith, hit_self x); word = q2; low = omega arith; high = omega arith; is = f }
    go (inr e) (inr f) ih =
        let r = ih (omega (arith, hit_other a (place x q1) e, hit_other a (place x q2) f)) in
        record { page = r.page; proc = omega (arith, r.proc); word = r.word; low = r.low; high = r.high; is = r.is }

pub owns_of : (a : ℕ) (ps : List ℕ) → 1 ≤ count a (owns ps) → Slot ps own_queue own_queue a
owns_of a [] h = absurd (omega arith)
owns_of a (x ∷ ps) h = go (hit_or a (place x own_queue)) (owns_of a ps)
  where
    go : (a ≡ place x own_queue) ⊎ (a ≢ place x own_queue) → (1 ≤ count a (owns ps) → Slot ps own_queue own_queue a) → Slot (x ∷ ps) own_queue own_queue a
    go (inl e) ih = record { page = x; proc = omega (arith, hit_self x); word = own_queue; low = omega arith; high = omega arith; is = e }
    go (inr e) ih =
        let r = ih (omega (arith, hit_other a (place x own_queue) e)) in
        record { page = r.page; proc = omega (arith, r.proc); word = r.word; low = r.low; high = r.high; is = r.is }

-- a head is an interrupt's, the free list's, the page queue's or the processor list's, a word of page 10, or word 4, 5 or 6 of a processor's page
pub data Place (ps : List ℕ) (a : ℕ) : Type 0 where
  int : (k : ℕ) → k < interrupts → a ≡ header_after k → Place ps a
  three : free_list ≤ a → a ≤ processor_list → a ≢ free_semaphore → Place ps a
  grant : grants ≤ a → a < grants_end → Place ps a
  slot : Slot ps own_queue q2 a → Place ps a

pub uses_place : (ps : List ℕ) (a : ℕ) → 1 ≤ count a (uses ps) → Place ps a
uses_place ps a h = go (hit_or a processor_list) (hit_or a free_list) (zero_or (count a (mails ps)))
  where
    go : (a ≡ processor_list) ⊎ (a ≢ processor_list) → (a ≡ free_list) ⊎ (a ≢ free_list) → (count a (mails ps) ≡ 0) ⊎ (1 ≤ count a (mails ps)) → Place ps a
    go (inl e) f i = three (omega arith) (omega arith) (omega arith)
    go (inr e) (inl f) i = three (omega arith) (omega arith) (omega arith)
    go (inr e) (inr f) (inl z) =
        let r = range1_of page_size grants a (omega (arith, hit_other a processor_list e, hit_other a free_list f, count_append a (mails ps) grant_words)) in
        grant r.0 (omega arith)
    go (inr e) (inr f) (inr i) =
        let r = mails_of a ps i in
        slot (record { page = r.page; proc = r.proc; word = r.word; low = omega (arith, r.low); high = r.high; is = r.is })

pub queues_place : (ps : List ℕ) (a : ℕ) → 1 ≤ count a (queues ps) → Place ps a
queues_place ps a h = go (hit_or a page_queue) (zero_or (count a (owns ps)))
  where
    go : (a ≡ page_queue) ⊎ (a ≢ page_queue) → (count a (owns ps) ≡ 0) ⊎ (1 ≤ count a (owns ps)) → Place ps a
    go (inl e) i = three (omega arith) (omega arith) (omega arith)
    go (inr e) (inl z) =
        let r = range2_of interrupts (header_after 0) a (omega (arith, hit_other a page_queue e, count_append a (owns ps) line_heads)) in
        int r.0 r.1 r.2
    go (inr e) (inr i) =
        let r = owns_of a ps i in
        slot (record { page = r.page; proc = r.proc; word = r.word; low = r.low; high = omega (arith, r.high); is = r.is })

-- a wait queue is known by the address s of its semaphore; its header is the next word
pub data Seat (ps : List ℕ) (s : ℕ) : Type 0 where
  line : (k : ℕ) → k < interrupts → s ≡ semaphore_after k → Seat ps s
  page : s ≡ free_semaphore → Seat ps s
  own : (p : ℕ) → 1 ≤ count p ps → s ≡ place p own_semaphore → Seat ps s

pub seat_of : (ps : List ℕ) (s : ℕ) → 1 ≤ count (s + 1) (queues ps) → Seat ps s
seat_of ps s h = go (hit_or (s + 1) page_queue) (zero_or (count (s + 1) (owns ps)))
  where
    go : (s + 1 ≡ page_queue) ⊎ (s + 1 ≢ page_queue) → (count (s + 1) (owns ps) ≡ 0) ⊎ (1 ≤ count (s + 1) (owns ps)) → Seat ps s
    go (inl e) i = page (omega arith)
    go (inr e) (inl z) =
        let r = range2_of interrupts (header_after 0) (s + 1) (omega (arith, hit_other (s + 1) page_queue e, count_append (s + 1) (owns ps) line_heads)) in
        line r.0 r.1 (omega (arith, r.2))
    go (inr e) (inr i) = let r = owns_of (s + 1) ps i in own r.page r.proc (omega arith)
