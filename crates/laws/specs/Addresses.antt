-- Say what is broken: whatever the memory, an address told is one of its 8,192 words. Assumes nothing.
use Rattle.std.specs.Prelude.{◌≡◌, ◌≢◌, ◌⊎◌, Bool, true, false, cond, List, [], ◌∷◌, ℕ, ◌/◌, ◌≤◌, ◌<◌, leb}
use Rattle.std.proofs.Common.{inl, inr}
use native.Mathlib.Omega.{arith}
use Rattle.model.specs.Map as Map
use Rattle.model.specs.Map.{memory_size, page_size, place, interrupts, clock_line, free_list, free_semaphore, page_queue, processor_list}
use Rattle.model.specs.Map.{running_page, running_label, zero_word, all_codes, built_in_codes, first_unused, entries, grants, grant_for}
use Rattle.model.specs.Map.{first_control, control_pages, last_name}
use Rattle.model.specs.Store.{bytes}
use Rattle.model.specs.Lists.{count, link_of, range, mails, queues}
use Rattle.model.specs.Tell.{Row, broken, offending, offending_in, Class}
use Rattle.model.specs.Tell.Row.{tells}
use Rattle.model.specs.Told.{Finding}
use Rattle.model.specs.Told.Finding.{Nothing, WrongLength, Broken}
use Rattle.model.specs.Tell.Class.{class}
use Rattle.model.specs.Classes as Classes
use Rattle.model.specs.Walks.{last_cell, gather}
use Rattle.model.specs.Classes.{page, cell, chains, controls, lines, told_of}
use Rattle.laws.specs.Count.{hit_other, hit_or, count_append, zero_or}
use Rattle.laws.specs.Chain.{Page, Pages}
use Rattle.laws.specs.Queues.{link_le}
use Rattle.laws.specs.Heads.{range1_of, Place, queues_place, mails_of}
use Rattle.laws.specs.Heads.Place.{int, three, grant, slot}
use Rattle.laws.specs.Sentences.{◌and◌}
use Rattle.laws.specs.Tells.{breaks_of, Said, first_said, Tells}
use Rattle.laws.specs.Tells.Said.{says}
use Rattle.laws.specs.Tells.Tells.{now, later}
use Rattle.laws.specs.Met.{met, met_pages, pages_page, gather_of}

-- every row tells addresses below n
abbrev pub Within : ℕ → List Row → Type 0
Within n [] = Unit {0}
Within n (tells xs a r ∷ t) = ((z : ℕ) → 1 ≤ count z xs → a z < n) × Within n t

pub offending_within : (n : ℕ) (t : List Row) → Within n t → (b : ℕ) → 1 ≤ count b (offending t) → b < n
unfolding offending
offending_within n [] w b h = absurd (omega arith)
offending_within n (tells xs a r ∷ t) w b h = go (zero_or (count b (broken a r xs))) (offending_within n t w.1 b)
  where
    go : (count b (broken a r xs) ≡ 0) ⊎ (1 ≤ count b (broken a r xs)) → (1 ≤ count b (offending t) → b < n) → b < n
    go (inl e) ih = ih (omega (arith, count_append b (broken a r xs) (offending t)))
    go (inr i) ih = let s = breaks_of a r xs b i in omega (arith, w.0 s.who s.here, s.tells)

abbrev pub WithinIn : ℕ → List (List Row) → Type 0
WithinIn n [] = Unit {0}
WithinIn n (s ∷ ss) = Within n s × WithinIn n ss

pub offending_within_in : (n : ℕ) (ss : List (List Row)) → WithinIn n ss → (b : ℕ) → 1 ≤ count b (offending_in ss) → b < n
unfolding offending_in
offending_within_in n [] w b h = absurd (omega arith)
offending_within_in n (s ∷ ss) w b h = go (zero_or (count b (offending s))) (offending_within_in n ss w.1 b)
  where
    go : (count b (offending s) ≡ 0) ⊎ (1 ≤ count b (offending s)) → (1 ≤ count b (offending_in ss) → b < n) → b < n
    go (inl e) ih = ih (omega (arith, count_append b (offending s) (offending_in ss)))
    go (inr i) ih = offending_within n s w.0 b i

-- ---- of the table
cell_low : (a n : ℕ) → a < n → cell a < n
unfolding Classes.cell
cell_low a n h = go (leb (page first_control) a)
  where
    go : (b : Bool) → cond b (page (a / page_size)) a < n
    go true = omega arith
    go false = h

last_low : (k a n : ℕ) (xs : List ℕ) → k < page_size → a < memory_size → Pages xs → last_cell k a xs < memory_size
last_low k a n [] l h p = h
last_low k a n (x ∷ xs) l h p = last_low k (place x k) n xs l (omega (arith, p.0.1)) p.1

module _ (m : List ℕ) where
  abbrev ps : List ℕ
  ps = met m processor_list

  on_list : (p : ℕ) → 1 ≤ count p ps → Page p
  on_list p h = pages_page (met m processor_list) (met_pages m processor_list) p h

  end_low : (a : ℕ) → a < memory_size → cell (last_cell (link_of a) a (met m a)) < memory_size
  end_low a h = cell_low (last_cell (link_of a) a (met m a)) memory_size (last_low (link_of a) a 0 (met m a) (omega (arith, link_le a)) h (met_pages m a))

  page_low : (p : ℕ) → 1 ≤ count p ps → place p 0 < memory_size
  page_low p h = omega (arith, (on_list p h).1)

  met_low : (a p : ℕ) → 1 ≤ count p (met m a) → place p 0 < memory_size
  met_low a p h = omega (arith, (pages_page (met m a) (met_pages m a) p h).1)

  gather_low : (hs : List ℕ) (p : ℕ) → 1 ≤ count p (gather (met m) hs) → place p 0 < memory_size
  gather_low hs p h = let t = gather_of (met m) hs p h in met_low t.head p t.there

  control_low : (z : ℕ) → 1 ≤ count z controls → place z 0 < memory_size
  control_low z h = omega (arith, (range1_of control_pages first_control z h).1)

  one_low : (x : ℕ) → x < memory_size → (a : ℕ) → 1 ≤ count a (x ∷ []) → a < memory_size
  one_low x l a h = go (hit_or a x)
    where
      go : (a ≡ x) ⊎ (a ≢ x) → a < memory_size
      go (inl e) = omega arith
      go (inr n) = absurd (omega (arith, hit_other a x n))

  chain_low : (a : ℕ) → 1 ≤ count a (chains ps) → a < memory_size
  chain_low a h = go (hit_or a processor_list) (hit_or a free_list)
    where
      go : (a ≡ processor_list) ⊎ (a ≢ processor_list) → (a ≡ free_list) ⊎ (a ≢ free_list) → a < memory_size
      go (inl e) f = omega arith
      go (inr e) (inl f) = omega arith
      go (inr e) (inr f) =
          let s = mails_of a ps (omega (arith, hit_other a processor_list e, hit_other a free_list f)) in
          let p = on_list s.page s.proc in
          omega (arith, s.is, s.high, p.1)

  queue_low : (a : ℕ) → 1 ≤ count a (queues ps) → a < memory_size
  queue_low a h = go (queues_place ps a h)
    where
      go : Place ps a → a < memory_size
      go (int k l e) = omega arith
      go (three u v w) = omega arith
      go (grant u v) = omega arith
      go (slot s) = let p = on_list s.page s.proc in omega (arith, s.is, s.high, p.1)

  used_once_low : Within memory_size (Classes.used_once bytes m ps (met m))
  unfolding Classes.used_once
  used_once_low = (control_low, tt)

  uses_end_low : Within memory_size (Classes.uses_end bytes m ps (met m))
  unfolding Classes.uses_end
  uses_end_low = (λ a h. end_low a (chain_low a h), (λ a h. omega (arith, (range1_of last_name (grant_for 1) a h).1), tt))

  queues_end_low : Within memory_size (Classes.queues_end bytes m ps (met m))
  unfolding Classes.queues_end
  queues_end_low = (λ a h. end_low a (queue_low a h), tt)

  waiting_bits_low : Within memory_size (Classes.waiting_bits bytes m ps (met m))
  unfolding Classes.waiting_bits
  waiting_bits_low = (page_low, (control_low, tt))

  reasons_low : Within memory_size (Classes.reasons bytes m ps (met m))
  unfolding Classes.reasons
  reasons_low = (gather_low lines, (met_low page_queue, (page_low, tt)))

  message_waits_low : Within memory_size (Classes.message_waits bytes m ps (met m))
  unfolding Classes.message_waits
  message_waits_low = (page_low, tt)

  semaphores_low : Within memory_size (Classes.semaphores bytes m ps (met m))
  unfolding Classes.semaphores
  semaphores_low =
      (λ k h. omega (arith, (range1_of interrupts 0 k h).1)) and (λ p h. omega (arith, (on_list p h).1)) and one_low free_semaphore (omega arith)
      and tt

  page_waits_low : Within memory_size (Classes.page_waits bytes m ps (met m))
  unfolding Classes.page_waits
  page_waits_low = (λ p h. omega arith, (λ p h. omega arith, tt))

  labels_low : Within memory_size (Classes.labels bytes m ps (met m))
  unfolding Classes.labels
  labels_low = (page_low, (page_low, tt))

  granted_low : Within memory_size (Classes.granted bytes m ps (met m))
  unfolding Classes.granted
  granted_low = (λ k h. omega (arith, (range1_of last_name 1 k h).1), (spare_low, tt))
    where
      spare_low : (a : ℕ) → 1 ≤ count a (grants ∷ range 16 1 (grant_for 16)) → a < memory_size
      spare_low a h = go (hit_or a grants)
        where
          go : (a ≡ grants) ⊎ (a ≢ grants) → a < memory_size
          go (inl e) = omega arith
          go (inr n) = omega (arith, (range1_of 16 (grant_for 16) a (omega (arith, hit_other a grants n))).1)

  messages_low : Within memory_size (Classes.messages bytes m ps (met m))
  unfolding Classes.messages
  messages_low = (gather_low (mails ps), tt)

  codes_low : Within memory_size (Classes.codes bytes m ps (met m))
  unfolding Classes.codes
  codes_low =
      (λ k h. omega (arith, (range1_of all_codes 0 k h).1)) and (λ k h. omega (arith, (range1_of 2 0 k h).1))
      and (λ k h. omega (arith, (range1_of 1 built_in_codes k h).1)) and tt

  faults_low : Within memory_size (Classes.faults bytes m ps (met m))
  unfolding Classes.faults
  faults_low = (one_low first_unused (omega arith), (λ k h. omega (arith, (range1_of entries 0 k h).1), tt))

  clock_low : Within memory_size (Classes.clock bytes m ps (met m))
  unfolding Classes.clock
  clock_low =
      one_low clock_line (omega arith) and one_low Map.c0 (omega arith) and one_low Map.c1 (omega arith) and one_low Map.c2 (omega arith)
      and one_low Map.c3 (omega arith) and one_low zero_word (omega arith) and one_low Map.divider (omega arith) and tt

  running_low : Within memory_size (Classes.running bytes m ps (met m))
  unfolding Classes.running
  running_low = one_low running_page (omega arith) and (λ p h. omega arith) and one_low running_label (omega arith) and tt

-- ---- what is told
abbrev pub AllWithin : ℕ → List Class → Type 0
AllWithin n [] = Unit {0}
AllWithin n (class k ss ∷ cs) = WithinIn n ss × AllWithin n cs

tells_within : (n : ℕ) (cs : List Class) → AllWithin n cs → {k a : ℕ} → Tells cs k a → a < n
tells_within n [] w t = elim t [ ]
tells_within n (class k ss ∷ cs) w (now i f) = offending_within_in n ss w.0 _ i
tells_within n (class k ss ∷ cs) w (later e s) = tells_within n cs w.1 s

pub all_low : (m : List ℕ) → AllWithin memory_size (Classes.classes bytes m (met m processor_list) (met m))
unfolding Classes.classes Classes.of_pages Classes.of_waits Classes.of_records Classes.of_tables Classes.of_counters
all_low m =
    (used_once_low m and uses_end_low m and tt)
    and (queues_end_low m and waiting_bits_low m and reasons_low m and message_waits_low m and semaphores_low m and page_waits_low m and tt)
    and (labels_low m and granted_low m and messages_low m and tt)
    and (codes_low m and faults_low m and tt)
    and (clock_low m and running_low m and tt)
    and tt

pub told_low : (m : List ℕ) (k a : ℕ) → told_of bytes m ≡ Broken k a → a < memory_size
unfolding Classes.told_of
told_low m k a e = go (told_of bytes m) e (first_said (Classes.classes bytes m (met m processor_list) (met m)))
  where
    go : (o : Finding) → o ≡ Broken k a → Said (Classes.classes bytes m (met m processor_list) (met m)) o → a < memory_size
    go Nothing q s = let z : ◌≡◌ {A = ℕ} 0 1 = cc in absurd (omega arith)
    go WrongLength q s = elim s [ ]
    go (Broken j b) q (says t) = let r : b ≡ a = cc in rw (← r) (tells_within memory_size (Classes.classes bytes m (met m processor_list) (met m)) (all_low m) t)
