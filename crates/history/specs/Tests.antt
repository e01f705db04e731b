-- Instructions: WNM and TME put and read nothing, and keep the step law. Assumes nothing.
use Rattle.std.specs.Prelude.{◌≡◌, refl, ◌≢◌, ◌⊎◌, Bool, true, false, List, [], ◌∷◌, ◌++◌, map, ℕ, ◌≤◌, ◌<◌}
use Rattle.std.proofs.Math.Path.{sym}
use Rattle.std.proofs.Common.{ap, ◌∙◌, inl, inr, append-nil, arith}
use Rattle.model.specs.Map.{control_pages, own_semaphore, pair, place, processor_list, q1}
use Rattle.model.specs.Bytes.{running, word, lists, queue, move, matches, test_q1}
use Rattle.model.specs.Queue as Queue
use Rattle.model.specs.Queue.{first}
use Rattle.model.specs.Mail as Mail
use Rattle.model.specs.Answer.{memory_of}
use Rattle.model.specs.Bytes as Model
use Rattle.model.specs.Lists.{count, Lists}
use Rattle.laws.specs.Count.{hit_or}
use Rattle.laws.specs.Inv.{Base, View, no_one}
use Rattle.laws.specs.Judged.{WellFormed}
use Rattle.laws.specs.Changes.{own_sem}
use Rattle.laws.specs.Who.{label_at, listed, busy}
use Rattle.laws.specs.Mails.{mail_queue, wnm_fit, first_mail}
use Rattle.laws.specs.Ways.{wnm_each, tme_each}
use Rattle.laws.specs.Words.{Tried, test_kept}
use Rattle.history.specs.Order.{only, Fails}
use Rattle.history.specs.Letter.{mail_of, key, asked, asked_page, waiting_for, Same, posts, label_same, waits_same, procs_same}
use Rattle.history.specs.Put.{nothing}
use Rattle.history.specs.Told.{of_none, stands_none, calm_done, calm_jumps, calm_waits, runs_in}
use Rattle.history.specs.Calm.{calm_refl}
use Rattle.history.specs.Traced.{Still, Lawful, still_on, same_still, still_traced, lawful_same}
use Rattle.history.specs.Moving.{moved, move_lists, moved_away, moved_order, moved_first, moved_still}

-- ---- the first match of a list
pub record Found (m : List ℕ) (n f q : ℕ) (zs : List ℕ) : Type 0 where
  pub before : List ℕ
  pub behind : List ℕ
  pub is : zs ≡ before ++ q ∷ behind
  pub match : asked n f (mail_of m q) ≡ true
  pub none : Fails (asked n f) (map (mail_of m) before)

asked_match : (m : List ℕ) (n f x : ℕ) → asked n f (mail_of m x) ≡ matches m n f x
unfolding Mail.matches
asked_match m n f x = asked_page m n f x

pub found : (m : List ℕ) (n f : ℕ) (zs : List ℕ) → first (matches m n f) zs ≢ 0 → Found m n f (first (matches m n f) zs) zs
unfolding Queue.first
found m n f [] d = absurd (d refl)
found m n f (z ∷ zs) d = go (matches m n f z) refl (found m n f zs)
  where
    go : (b : Bool) → matches m n f z ≡ b → (first (matches m n f) zs ≢ 0 → Found m n f (first (matches m n f) zs) zs)
        → Found m n f (first (matches m n f) (z ∷ zs)) (z ∷ zs)
    go true e ih =
        let k : first (matches m n f) (z ∷ zs) ≡ z = rw (e, Queue.first) in
        rw k (record { before = []; behind = zs; is = refl; match = asked_match m n f z ∙ e; none = tt })
    go false e ih =
        let k : first (matches m n f) (z ∷ zs) ≡ first (matches m n f) zs = rw (e, Queue.first) in
        let t = ih (rw k at d) in
        rw k (record {
          before = z ∷ t.before;
          behind = t.behind;
          is = ap {B = List ℕ} (λ l. z ∷ l) t.is;
          match = t.match;
          none = (asked_match m n f z ∙ e, t.none);
        })

-- ---- messages that only changed places, then a step that leaves them
pub lawful_order : {m m1 : List ℕ} {ps : List ℕ} {L K : Lists} {W : View} → Base m ps L W [] no_one → Base m1 ps K W [] no_one → (m2 : List ℕ) → Same ps K m1 m2
    → ((p : ℕ) → 1 ≤ count p ps → (k l : ℕ) → only (key k l) (waiting_for m1 p) ≡ only (key k l) (waiting_for m p)) → Still m m1 → Lawful m m2 nothing
lawful_order {m} b b1 m2 s f t =
    let e = procs_same b1 s ∙ sym (listed b) in
    record {
      told = record {
        at = λ p h i k l.
            let j = rw (listed b) at h in
            rw (of_none p, waits_same b1 (posts s) p j, append-nil (waiting_for m p)) (f p j k l);
        keeps = λ p h i. (let j = rw (listed b) at h in label_same s p j ∙ label_at b1 p j ∙ sym (label_at b p j));
        born = λ p h i. absurd (omega (arith, ap (count p) e));
      };
      stands = stands_none m2;
      traced = still_traced (still_on t (same_still b1 s)) nothing refl refl refl;
    }

-- ---- TME: every tested message goes to the end of Q2, the first of Q1 first: what waits stays, word for word
abbrev Waiting : List ℕ → List ℕ → View → List ℕ → Type 0
Waiting m ps W x = (K : Lists) × Base x ps K W [] no_one × ((y : ℕ) → 1 ≤ count y ps → waiting_for x y ≡ waiting_for m y) × Still m x

test_keeps : {m : List ℕ} {ps : List ℕ} {L : Lists} {W : View} (p n f : ℕ) → 1 ≤ count p ps → Base m ps L W [] no_one
    → Tried (Waiting m ps W) (test_q1 control_pages m p n f)
test_keeps {m} {ps} {L} {W} p n f h b = test_kept (Waiting m ps W) p (λ x t d.
    let q = word x p q1 in
    let r = first_mail t.1 p h d in (
      moved t.1 p q [] r.0 h r.1,
      move_lists t.1 p q [] r.0 h r.1,
      λ y i. moved_first t.1 p q r.0 h r.1 y i ∙ t.2 y i,
      still_on t.3 (moved_still t.1 p q [] r.0 h r.1),
    )) 20 m n f (L, b, (λ y i. refl), same_still b (calm_refl m))

module _ {m : List ℕ} (w : WellFormed m) (d : running m ≢ 0) where
  open busy w d use {base as b, runs as hr, ready}

  abbrev r : ℕ
  r = running m

  pub wnm_lawful : (n f len : ℕ) → f < 8 → Lawful m (memory_of (Model.wnm m n f len)) nothing
  unfolding Mail.matches
  wnm_lawful n f len hf =
      wnm_each m (λ o. Lawful m (memory_of o) nothing) n f len
      (λ z. lawful_same b (memory_of (Model.waits m (place r own_semaphore) (pair n f)))
      (calm_waits b (place r own_semaphore) (pair n f) d (own_sem b.facts.sep r hr) (omega (arith, ready)) (wnm_fit w d n f hf z)))
      (λ z.
      let q = Model.in_q1 m n f in
      let t : Found m n f q (queue m (place r q1)) = found m n f (queue m (place r q1)) z in
      let i = sym q5 ∙ t.is in
      let b1 = move_lists b r q t.before t.behind hr i in
      let m1 = move m r q in
      lawful_order b b1 (memory_of (Model.done m1 len)) (calm_done b1.facts.sep m1 (runs_in b1) len) (λ p h k l. cases t i p h k l (hit_or p r))
      (moved_still b r q t.before t.behind hr i))
    where
      q5 : queue m (place r q1) ≡ lists m (place r q1)
      q5 = mail_queue b r q1 hr (omega arith) (omega arith)

      cases : (t : Found m n f (Model.in_q1 m n f) (queue m (place r q1))) → lists m (place r q1) ≡ t.before ++ Model.in_q1 m n f ∷ t.behind → (p : ℕ)
          → 1 ≤ count p (lists m processor_list) → (k l : ℕ) → (p ≡ r) ⊎ (p ≢ r)
          → only (key k l) (waiting_for (move m r (Model.in_q1 m n f)) p) ≡ only (key k l) (waiting_for m p)
      cases t i p h k l (inl z) = rw z (moved_order b r (Model.in_q1 m n f) t.before t.behind hr i n f t.match t.none k l)
      cases t i p h k l (inr z) = ap (only (key k l)) (moved_away b r (Model.in_q1 m n f) t.before t.behind hr i p h z)

  pub tme_lawful : (n f a len : ℕ) → Lawful m (memory_of (Model.tme m n f a len)) nothing
  tme_lawful n f a len =
      let t = test_keeps r n f hr b in
      let c = t.kept.1 in
      let x = t.memory in
      tme_each m (λ o. Lawful m (memory_of o) nothing) n f a len t.is
      (lawful_order b c (memory_of (Model.jumps x a)) (calm_jumps c.facts.sep x (runs_in c) a) (λ p h k l. ap (only (key k l)) (t.kept.2 p h)) t.kept.3)
      (lawful_order b c (memory_of (Model.done x len)) (calm_done c.facts.sep x (runs_in c) len) (λ p h k l. ap (only (key k l)) (t.kept.2 p h)) t.kept.3)
      (lawful_same b (memory_of (Model.jumps m a)) (calm_jumps b.facts.sep m (runs_in b) a))
