-- Fresh start, from settings or not: nothing waits for anybody who lives, whatever the memory held before. Assumes nothing.
use Rattle.std.specs.Prelude.{◌≡◌, ◌≢◌, ◌⊎◌, true, List, [], ◌∷◌, ℕ, ◌+◌, ◌≤◌, length}
use Rattle.std.proofs.Common.{inl, inr, arith}
use Rattle.model.specs.Map.{control_pages, first_control, link, memory_size, place, q1, q2}
use Rattle.model.specs.declared.Entry.{Entry}
use Rattle.model.specs.Told.Fit.{Good}
use Rattle.model.specs.Fresh.{startable}
use Rattle.model.specs.Layout.{of_file}
use Rattle.model.specs.Answer as Answer
use Rattle.model.specs.Answer.{memory_of}
use Rattle.model.specs.Bytes.{fresh, from_settings, processors, queue, word}
use Rattle.model.specs.Lists.{count}
use Rattle.laws.specs.Count.{hit_other, hit_or}
use Rattle.laws.specs.Chain.{walk_chain}
use Rattle.laws.specs.Words.{Small}
use Rattle.laws.specs.Start.{args_of}
use Rattle.laws.specs.Settle.{Rows, Settled, pages, fresh_settled, from_settings_lem}
use Rattle.laws.specs.Settle.Rows.{none, one}
use Rattle.laws.specs.Witness.{fresh_is}
use Rattle.history.specs.Letter.{waiting_for}

-- the heads of Q1 and Q2 of each of ps are 0
abbrev Bare : List ℕ → List ℕ → Type 0
Bare m ps = (p : ℕ) → 1 ≤ count p ps → (j : ℕ) → q1 ≤ j → j ≤ q2 → word m p j ≡ 0

bare_cons : (m : List ℕ) (q : ℕ) (ps : List ℕ) → ((j : ℕ) → q1 ≤ j → j ≤ q2 → word m q j ≡ 0) → Bare m ps → Bare m (q ∷ ps)
bare_cons m q ps f g p h j l u = go (hit_or p q)
  where
    go : (p ≡ q) ⊎ (p ≢ q) → word m p j ≡ 0
    go (inl e) = rw e (f j l u)
    go (inr d) = g p (omega (arith, hit_other p q d)) j l u

rows_bare : {m : List ℕ} (ps : List ℕ) (es : List Entry) → Rows m ps es → Bare m ps
rows_bare _ _ none = λ p h. absurd (omega arith)
rows_bare {m} _ _ (one p e ps es s r) = bare_cons m p ps s.mail (rows_bare ps es r)

settled_empty : {m : List ℕ} {es : List Entry} → Settled m es → (p : ℕ) → 1 ≤ count p (processors m) → waiting_for m p ≡ []
unfolding waiting_for
settled_empty {m} {es} t p h =
    let b = bare_cons m first_control (pages (length es) (first_control + 1)) t.first.mail (rows_bare _ es t.rows) p (rw t.procs at h) in
    let e : (j : ℕ) → q1 ≤ j → j ≤ q2 → queue m (place p j) ≡ [] = λ j l u. walk_chain control_pages m link (place p j) [] (b j l u) (omega arith) in
    rw (e q1 (omega arith) (omega arith), e q2 (omega arith) (omega arith))

pub fresh_empty : (m : List ℕ) (line d : ℕ) → length m ≡ memory_size → startable line d ≡ true → (p : ℕ) → 1 ≤ count p (processors (memory_of (fresh m line d)))
    → waiting_for (memory_of (fresh m line d)) p ≡ []
fresh_empty m line d l s = rw (fresh_is m line d l s) (settled_empty (fresh_settled m line d l (args_of line d s)))

pub settings_empty : (m f : List ℕ) → length m ≡ memory_size → Small m → of_file f ≡ Good → (p : ℕ) → 1 ≤ count p (processors (memory_of (from_settings m f)))
    → waiting_for (memory_of (from_settings m f)) p ≡ []
unfolding Answer.memory_of
settings_empty m f l s g = let t = from_settings_lem m l s f g in rw t.done (settled_empty t.settled)
