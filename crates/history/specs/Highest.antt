-- Document 02, 6/13: "A barrier program created a processor above the scale reader and starved it." The highest priority among those that live: no call makes
-- it higher, nor does the host, but a fresh start, from settings or not. Who lives keeps its priority; who is new has one no higher than who created it. So
-- from one beginning to the next nobody is ever above the highest that stood there then. Assumes nothing.
use Rattle.std.specs.Prelude.{◌≡◌, refl, ◌≢◌, ◌⊎◌, Bool, true, false, List, [], ◌∷◌, ℕ, ◌+◌, ◌≤◌, length, ltb}
use Rattle.std.proofs.Common.{ap, inl, inr, arith, ltb-true, ltb-false, eq-eqb}
use Rattle.model.specs.declared.Entry.{Entry}
use Rattle.model.specs.Told.Fit.{Good}
use Rattle.model.specs.Map.{first_control, first_priority, memory_size, upper}
use Rattle.model.specs.Answer as Answer
use Rattle.model.specs.Answer.{memory_of}
use Rattle.model.specs.Fresh.{startable}
use Rattle.model.specs.Layout as Layout
use Rattle.model.specs.Layout.{are_entries, entries_of, newest, of_file}
use Rattle.model.specs.Call as Call
use Rattle.model.specs.Bytes.{fresh, from_settings, priority, processors, running}
use Rattle.model.specs.Lists.{count}
use Rattle.laws.specs.Count.{hit_self, hit_other, hit_or, zero_or}
use Rattle.laws.specs.Words.{Small}
use Rattle.laws.specs.Judged.{invariant}
use Rattle.laws.specs.Who.{listed, label_at}
use Rattle.laws.specs.Fits.{Fields, file_of, first_entry, entry_of}
use Rattle.laws.specs.Settle.{Rows, Settled, pages, from_settings_lem, fresh_settled}
use Rattle.laws.specs.Calls.{Sound, Host, Act, after, Reached, reached_sound, args_of, well}
use Rattle.history.specs.Told.{Under}
use Rattle.history.specs.Traced.{Each}
use Rattle.history.specs.Others.{host_passes}
use Rattle.history.specs.Lives.{Living, restarts, call_lawful}

-- ---- the highest of the priorities of these
unfoldable pub highest_of : List ℕ → List ℕ → ℕ
highest_of m [] = 0
highest_of m (p ∷ ps) = elim (ltb (highest_of m ps) (priority m p)) [ true ↦ priority m p | false ↦ highest_of m ps ]

-- of all that live
abbrev pub highest : List ℕ → ℕ
highest m = highest_of m (processors m)

-- it is what its name says: none has a higher one, and it is the least of which that is true
pub highest_most : (m : List ℕ) (ps : List ℕ) (p : ℕ) → 1 ≤ count p ps → priority m p ≤ highest_of m ps
unfolding highest_of
highest_most m [] p h = absurd (omega arith)
highest_most m (x ∷ ps) p h = go (ltb (highest_of m ps) (priority m x)) refl (hit_or p x) (highest_most m ps p)
  where
    go : (c : Bool) → ltb (highest_of m ps) (priority m x) ≡ c → (p ≡ x) ⊎ (p ≢ x) → (1 ≤ count p ps → priority m p ≤ highest_of m ps)
        → priority m p ≤ highest_of m (x ∷ ps)
    go true e (inl d) ih = rw (e, highest_of, d) (omega arith)
    go true e (inr d) ih =
        let l = ltb-true (highest_of m ps) (priority m x) e in
        let i = ih (omega (arith, hit_other p x d)) in
        rw (e, highest_of) (omega arith)
    go false e (inl d) ih = let l = ltb-false (highest_of m ps) (priority m x) e in rw (e, highest_of, d) l
    go false e (inr d) ih = rw (e, highest_of) (ih (omega (arith, hit_other p x d)))

pub highest_least : (m : List ℕ) (ps : List ℕ) (b : ℕ) → ((p : ℕ) → 1 ≤ count p ps → priority m p ≤ b) → highest_of m ps ≤ b
unfolding highest_of
highest_least m [] b h = omega arith
highest_least m (x ∷ ps) b h = go (ltb (highest_of m ps) (priority m x)) refl (highest_least m ps b (λ p i. h p (omega arith)))
  where
    go : (c : Bool) → ltb (highest_of m ps) (priority m x) ≡ c → highest_of m ps ≤ b → highest_of m (x ∷ ps) ≤ b
    go true e ih = rw (e, highest_of) (h x (omega (arith, hit_self x)))
    go false e ih = rw (e, highest_of) ih

-- ---- from m to m', where those that live on keep their priorities and those that are new are not above the one that ran
told_under : {m m' : List ℕ} → ((p : ℕ) → Living m p → Living m' p → priority m' p ≡ priority m p)
    → ((p : ℕ) → count p (processors m) ≡ 0 → Living m' p → Under m m' p) → highest m' ≤ highest m
told_under {m} {m'} keeps born = highest_least m' (processors m') (highest m) (λ p i. go p i (zero_or (count p (processors m))))
  where
    go : (p : ℕ) → Living m' p → (count p (processors m) ≡ 0) ⊎ (Living m p) → priority m' p ≤ highest m
    go p i (inl e) = let u = born p e i in let t = highest_most m (processors m) (running m) u.creator in omega (arith, u.most)
    go p i (inr j) = rw (keeps p j i) (highest_most m (processors m) p j)

-- ---- the calls
module _ {m : List ℕ} (k : Sound m) where
  -- who lives keeps its priority
  pub priority_stays : (a : Act) → restarts a ≡ false → (p : ℕ) → Living m p → Living (after a m) p → priority (after a m) p ≡ priority m p
  priority_stays a e p i j = ap (λ (w : ℕ). upper w) ((call_lawful k a e).told.keeps p i j)

  -- who is new is not above the one that ran
  pub new_under : (a : Act) → restarts a ≡ false → (p : ℕ) → count p (processors m) ≡ 0 → Living (after a m) p → Under m (after a m) p
  new_under a e p i j = ((call_lawful k a e).told.born p i j).1

  pub never_higher : (a : Act) → restarts a ≡ false → highest (after a m) ≤ highest m
  never_higher a e = told_under (priority_stays a e) (new_under a e)

  -- nor is anybody by the host
  host_priority : {m' : List ℕ} → Host m m' → (p : ℕ) → Living m p → Living m' p → priority m' p ≡ priority m p
  host_priority o p i j = ap (λ (w : ℕ). upper w) ((host_passes k o).told.keeps p i j)

  pub host_never_higher : {m' : List ℕ} → Host m m' → highest m' ≤ highest m
  host_never_higher o = told_under (host_priority o) (λ p i j. ((host_passes k o).told.born p i j).1)

-- ---- from one beginning on: calls that are no fresh start, or a refused one, and changes by the host
pub data Since (m : List ℕ) : List ℕ → Type 0 where
  here : Since m m
  call : (m₁ : List ℕ) (a : Act) → restarts a ≡ false → Since m m₁ → Since m (after a m₁)
  host : (m₁ m₂ : List ℕ) → Host m₁ m₂ → Since m m₁ → Since m m₂

since_reached : {m m₁ : List ℕ} → Reached m → Since m m₁ → Reached m₁
since_reached r here = r
since_reached r (call m₁ a e s) = Reached.call m₁ a (since_reached r s)
since_reached r (host m₁ m₂ o s) = Reached.host m₁ m₂ o (since_reached r s)

pub since_never_higher : {m m₁ : List ℕ} → Reached m → Since m m₁ → highest m₁ ≤ highest m
since_never_higher r here = omega arith
since_never_higher r (call m₁ a e s) =
    let h = reached_sound m₁ (since_reached r s) in
    let i = since_never_higher r s in
    omega (arith, never_higher h a e)
since_never_higher r (host m₁ m₂ o s) =
    let h = reached_sound m₁ (since_reached r s) in
    let i = since_never_higher r s in
    omega (arith, host_never_higher h o)

-- who is highest has nobody above it later
pub above_nobody : {m m₁ : List ℕ} → Reached m → Since m m₁ → (p : ℕ) → priority m p ≡ highest m → (q : ℕ) → Living m₁ q → priority m₁ q ≤ priority m p
above_nobody {m} {m₁} r t p e q i = let top = since_never_higher r t in omega (arith, highest_most m₁ (processors m₁) q i)

-- ---- what stands after a fresh start, from settings or not
rows_most : {m : List ℕ} (b : ℕ) (ps : List ℕ) (es : List Entry) → Rows m ps es → are_entries es ≡ true → Each (λ (e : Entry). e.priority ≤ b) es → (p : ℕ)
    → 1 ≤ count p ps → priority m p ≤ b
rows_most b _ _ Rows.none h u p i = absurd (omega arith)
rows_most {m} b _ _ (Rows.one q e ps es s r) h u p i =
    let t = first_entry e es h in
    go (hit_or p q) (entry_of e t.0).0 (rows_most b ps es r t.1 u.1 p)
  where
    go : (p ≡ q) ⊎ (p ≢ q) → Fields e → (1 ≤ count p ps → priority m p ≤ b) → priority m p ≤ b
    go (inl d) f ih = rw (d, s.label) (omega (arith, u.0, f.names))
    go (inr d) f ih = ih (omega (arith, hit_other p q d))

settled_most : {m : List ℕ} {es : List Entry} → Settled m es → (b : ℕ) → first_priority ≤ b → are_entries es ≡ true
    → Each (λ (e : Entry). e.priority ≤ b) es → highest m ≤ b
settled_most {m} {es} t b l h u =
    highest_least m (processors m) b (λ p i. go p (hit_or p first_control) (rw t.procs at i))
  where
    go : (p : ℕ) → (p ≡ first_control) ⊎ (p ≢ first_control) → 1 ≤ count p (first_control ∷ pages (length es) (first_control + 1)) → priority m p ≤ b
    go p (inl d) i = rw (d, t.first.label) (omega arith)
    go p (inr d) i = rows_most b (pages (length es) (first_control + 1)) es t.rows h u p (omega (arith, hit_other p first_control d))

-- ---- "From a fresh start every processor thus has priority 1": as high as the first one has
pub fresh_alike : (m : List ℕ) → length m ≡ memory_size → Small m → (line d : ℕ) → startable line d ≡ true → {m₁ : List ℕ}
    → Since (memory_of (fresh m line d)) m₁ → (p : ℕ) → Living m₁ p → priority m₁ p ≡ first_priority
unfolding Call.fresh Answer.memory_of Layout.are_entries
fresh_alike m l s line d e {m₁} t p i =
    let r = Reached.start m line d l s e in
    let k = reached_sound m₁ (since_reached r t) in
    let z = fresh_settled m line d l (args_of line d e) in
    let top = rw (eq-eqb (length m) memory_size l, e) at (since_never_higher r t) in
    let one = settled_most z first_priority (omega arith) refl tt in
    let b = (invariant (well k)).base in
    let n = rw (label_at b p (rw (listed b) at i)) at (b.facts.names.range p (rw (listed b) at i)).low in
    omega (arith, highest_most m₁ (processors m₁) p i, one, top, n)

-- "but for those of settings": what the first one and every entry keeps below, everybody does
pub settings_bound : (m f : List ℕ) → length m ≡ memory_size → Small m → of_file f ≡ Good → (b : ℕ) → first_priority ≤ b
    → Each (λ (e : Entry). e.priority ≤ b) (entries_of (newest f)) → {m₁ : List ℕ} → Since (memory_of (from_settings m f)) m₁ → (p : ℕ) → Living m₁ p
    → priority m₁ p ≤ b
unfolding Answer.memory_of
settings_bound m f l s g b i u {m₁} t p j =
    let z = from_settings_lem m l s f g in
    let top = rw z.done at (since_never_higher (Reached.settle m f l s g) t) in
    omega (arith, highest_most m₁ (processors m₁) p j, top, settled_most z.settled b i (file_of f g).entries u)
