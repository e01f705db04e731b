-- Well-formed: "every control page is used once", said by counting. What follows from it: headers are no links, no page is in two chains of one
-- kind, no list is longer than twenty. Assumes nothing.
use Rattle.std.specs.Prelude.{◌≡◌, ◌≢◌, ◌⊎◌, false, List, ◌∷◌, ◌++◌, ℕ, ◌+◌, ◌≤◌, length}
use Rattle.std.proofs.Common.{ap, inl, inr, arith}
use Rattle.model.specs.Map.{control_pages, free_list, processor_list}
use Rattle.model.specs.Lists.{count, Lists, sum, link_of, mails, uses, queues, is_grant}
use Rattle.laws.specs.Count.{hit_other, hit_or, count_append, zero_or}
use Rattle.laws.specs.Chain.{Page}
use Rattle.laws.specs.Queues.{link_procs, link_other, Header, Good, Apart, Single}
use Rattle.laws.specs.Heads.{one, one_le, one_page, sum_one, sum_two, sum_append, Place, uses_place, queues_place, short, grant_words}
use Rattle.laws.specs.Heads.Place.{int, three, grant, slot}

-- ---- heads
abbrev pub others : List ℕ → List ℕ
others ps = free_list ∷ (mails ps ++ grant_words)

-- a cell from which a chain hangs
abbrev pub Among : List ℕ → ℕ → Type 0
Among ps a = 1 ≤ count a (uses ps ++ queues ps)

abbrev pub Head : List ℕ → ℕ → Type 0
Head ps a = Among ps a × (is_grant a ≡ false)

pub head_place : (ps : List ℕ) (a : ℕ) → Among ps a → Place ps a
head_place ps a h = go (zero_or (count a (uses ps)))
  where
    go : (count a (uses ps) ≡ 0) ⊎ (1 ≤ count a (uses ps)) → Place ps a
    go (inl e) = queues_place ps a (omega (arith, h, count_append a (uses ps) (queues ps)))
    go (inr i) = uses_place ps a i

-- ---- no page has two uses, and who waits is a processor and waits once
pub record Sep (ps : List ℕ) (L : Lists) : Type 0 where
  pub procs : L processor_list ≡ ps
  pub most : (z : ℕ) → sum z L (uses ps) ≤ one z
  pub waits : (z : ℕ) → sum z L (queues ps) ≤ count z ps

module _ {ps : List ℕ} {L : Lists} (s : Sep ps L) where
  procs_count : (z : ℕ) → count z (L processor_list) ≡ count z ps
  procs_count z = ap (count z) s.procs

  pub proc_page : (p : ℕ) → 1 ≤ count p ps → Page p
  proc_page p h = one_page p (omega (arith, s.most p, procs_count p))

  pub proc_once : (p : ℕ) → count p ps ≤ 1
  proc_once p = omega (arith, s.most p, one_le p, procs_count p)

  pub good : Good (Head ps)
  good a h = go (head_place ps a h.0)
    where
      go : Place ps a → Header a
      go (int n u v) = record { fits = omega arith; free = λ x k i j. omega arith }
      go (three u v w) = record { fits = omega arith; free = λ x k i j. omega arith }
      go (grant u v) = record { fits = omega arith; free = λ x k i j. omega arith }
      go (slot t) = let r = proc_page t.page t.proc in record { fits = omega arith; free = λ x k i j. omega arith }

  few : (z : ℕ) → sum z L (others ps ++ queues ps) ≤ 1
  few z = omega (arith, s.most z, s.waits z, one_le z, procs_count z, sum_append z L (others ps) (queues ps))

  other : (a : ℕ) → Head ps a → a ≢ processor_list → 1 ≤ count a (others ps ++ queues ps)
  other a h n = omega (arith, h.0, hit_other a processor_list n)

  pub apart : Apart (Head ps) L
  apart a b i j n l z = go (hit_or a processor_list) (hit_or b processor_list)
    where
      go : (a ≡ processor_list) ⊎ (a ≢ processor_list) → (b ≡ processor_list) ⊎ (b ≢ processor_list) → count z (L a) + count z (L b) ≤ 1
      go (inl e) (inl f) = absurd (omega arith)
      go (inl e) (inr f) = absurd (omega (arith, link_other b f, link_procs, ap link_of e))
      go (inr e) (inl f) = absurd (omega (arith, link_other a e, link_procs, ap link_of f))
      go (inr e) (inr f) = omega (arith, sum_two z L a b (others ps ++ queues ps) n (other a i e) (other b j f), few z)

  pub single : Single (Head ps) L
  single a i z = go (hit_or a processor_list)
    where
      go : (a ≡ processor_list) ⊎ (a ≢ processor_list) → count z (L a) ≤ 1
      go (inl e) = rw (e, s.procs) (proc_once z)
      go (inr e) = omega (arith, sum_one z L a (others ps ++ queues ps) (other a i e), few z)

  -- no list is longer than 20
  pub list_short : (a : ℕ) → 1 ≤ count a (uses ps ++ queues ps) → length (L a) ≤ control_pages
  list_short a h = go (zero_or (count a (uses ps)))
    where
      go : (count a (uses ps) ≡ 0) ⊎ (1 ≤ count a (uses ps)) → length (L a) ≤ control_pages
      go (inl e) = short (L a) (λ z. omega (
        arith,
        sum_one z L a (queues ps) (omega (arith, h, count_append a (uses ps) (queues ps))),
        s.waits z,
        s.most z,
        procs_count z,
      ))
      go (inr i) = short (L a) (λ z. omega (arith, sum_one z L a (uses ps) i, s.most z))
