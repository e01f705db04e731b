-- Instructions: CRP puts and reads nothing; Q1 and Q2 of every processor stay, and the new one has nothing, and no higher a priority than the one that ran.
-- Assumes nothing.
use Rattle.std.specs.Prelude.{◌≡◌, refl, ◌≢◌, ◌⊎◌, List, [], ◌∷◌, ◌++◌, ℕ, ◌≤◌, ◌<◌, get_or}
use Rattle.std.proofs.Common.{ap, ◌∙◌, inl, inr, append-nil, arith}
use Rattle.model.specs.Map.{control_pages, label, last_name, last_priority, link, list_link, pair, place, processor_list, q1, q2, upper}
use Rattle.model.specs.Bytes.{running, word, lists, priority, processors, page_of, queue, created, waits_for_page}
use Rattle.model.specs.Answer.{memory_of}
use Rattle.model.specs.Bytes as Model
use Rattle.model.specs.Lists.{count, Lists}
use Rattle.laws.specs.Count.{hit_other, hit_or, count_append, count_mid}
use Rattle.laws.specs.Chain.{walk_chain}
use Rattle.laws.specs.Uses.{Sep, proc_page}
use Rattle.laws.specs.Inv.{Base, View, bearers, no_one, view}
use Rattle.laws.specs.Judged.{WellFormed}
use Rattle.laws.specs.Hands.{in_hand}
use Rattle.laws.specs.Grants.{Takes, take_page_lem}
use Rattle.laws.specs.Grants.Takes.{gets, lacks}
use Rattle.laws.specs.Ways.{Faults, crp_each, crp_page_each}
use Rattle.laws.specs.Aside.{aside_hand, Aside}
use Rattle.laws.specs.Who.{listed, busy}
use Rattle.laws.specs.Create.{made, only, below, label_is, created_base, created_word, nobody}
use Rattle.history.specs.Letter.{Same, Posts, posts, posts_on, posts_then, agrees, waiting_for, label_same, waits_same, procs_same}
use Rattle.history.specs.Put.{nothing}
use Rattle.history.specs.Calm.{calm_only, mine_high, mine_hand, mine_proc}
use Rattle.history.specs.Told.{of_none, stands_none, calm_done, runs_in}
use Rattle.history.specs.Traced.{Lawful, none_turned, some_page, posts_waited, lawful_same}
use Rattle.history.specs.Traced.Origin.{unchanged}
use Rattle.history.specs.Quiet.{fault_lawful}
use Rattle.history.specs.Taking.{calm_takes, page_waits_lem}

-- ---- page q in hand becomes a processor
module _ {m : List ℕ} {ps : List ℕ} {L : Lists} {W : View} {hs : List ℕ} {g q : ℕ} (b : Base m ps L W (q ∷ hs) g) (n r v a : ℕ) (n1 : 1 ≤ n) (n2 : n ≤ last_name)
    (r1 : 1 ≤ r) (r2 : r ≤ last_priority) (free : bearers W.label ps n ≡ 0) where
  abbrev x : List ℕ
  x = made b n r v a

  sx : Sep ps L
  sx = b.facts.sep

  aside : Aside ps L q
  aside = aside_hand b q (in_hand b)

  open aside use {page as pg}

  abbrev m2 : List ℕ
  m2 = created m q n r v a

  -- a word that is neither 247, nor word 1 of q or of a processor
  made_word : (c : ℕ) → c ≢ processor_list → c ≢ place q list_link → ((z : ℕ) → 1 ≤ count z ps → c ≢ place z list_link) → get_or m2 c 0 ≡ get_or x c 0
  made_word = created_word b n r v a n1 n2 r1 r2 free

  created_label : (p : ℕ) → 1 ≤ count p ps → word m2 p label ≡ word m p label
  created_label p h =
      made_word (place p label) (omega (arith, proc_page sx p h)) (omega arith) (λ z i. omega arith)
      ∙ label_same (calm_only sx m x q aside (only b n r v a)) p h

  created_posts : Posts ps L m m2
  created_posts =
      posts_on (posts (calm_only sx m x q aside (only b n r v a))) (record {
        at = λ c h.
            let t = mine_high sx h in
            made_word c (omega arith) (mine_hand sx h q list_link aside (omega arith))
            (λ z i. mine_proc sx h z list_link i (omega arith) (omega arith) (omega arith));
      })

  empty_queue : (k : ℕ) → q1 ≤ k → k ≤ q2 → queue m2 (place q k) ≡ []
  empty_queue k l u =
      walk_chain control_pages m2 link (place q k) [] (made_word (place q k) (omega (arith, pg)) (omega arith) (λ z i. omega arith)
      ∙ below b n r v a k (omega arith))
      (omega arith)

  created_own : word m2 q label ≡ pair r n
  created_own = made_word (place q label) (omega (arith, pg)) (omega arith) (λ z i. omega arith) ∙ label_is b n r v a

  created_empty : waiting_for m2 q ≡ []
  unfolding waiting_for
  created_empty = rw (empty_queue q1 (omega arith) (omega arith), empty_queue q2 (omega arith) (omega arith))

module _ {m : List ℕ} (w : WellFormed m) (d : running m ≢ 0) where
  open busy w d use {base as b, runs as hr}

  abbrev Ends : Model.Step → Type 0
  Ends o = Lawful m (memory_of o) nothing

  bad : Faults m Ends
  bad = record { all = λ f i j. fault_lawful w d f }

  crp_page_lem : (n r v a len : ℕ) → 1 ≤ n → n ≤ last_name → 1 ≤ r → r ≤ last_priority → r ≤ priority m (running m)
      → page_of m n ≡ 0 → Lawful m (memory_of (Model.crp_page m n r v a len)) nothing
  crp_page_lem n r v a len n1 n2 r1 r2 under free = go (take_page_lem (running m) hr b)
    where
      go : Takes m (running m) (lists m processor_list) (lists m) (view m) [] no_one → Lawful m (memory_of (Model.crp_page m n r v a len)) nothing
      go (lacks e f2 g2) =
          crp_page_each m Ends e n r v a len (λ y. lawful_same b (memory_of (waits_for_page m)) (page_waits_lem w d f2 g2)) (λ y. absurd (y refl))
      go (gets q m1 e z t k) =
          let fr : bearers t.view.label (lists m processor_list) n ≡ 0 = rw k (nobody b n free) in
          let c = created_base t.base n r v a n1 n2 r1 r2 fr in
          let s1 = calm_takes b (running m) q m1 e in
          let ag = agrees b (posts s1) t.base in
          let m2 = created m1 q n r v a in
          let m3 = memory_of (Model.done m2 len) in
          let d2 : Same (lists m processor_list ++ q ∷ []) c.lists m2 (memory_of (Model.done m2 len)) =
          calm_done c.base.facts.sep m2 (runs_in c.base) len in
          let pr : processors (memory_of (Model.done m2 len)) ≡ lists m processor_list ++ q ∷ [] = procs_same c.base d2 in
          let lm : processors m ≡ lists m processor_list = listed b in
          let ps1 : Posts (lists m processor_list) (lists m) m m2 = posts_then ag (posts s1) (created_posts t.base n r v a n1 n2 r1 r2 fr) in
          let more : (y : ℕ) → 1 ≤ count y (lists m processor_list) → 1 ≤ count y (lists m processor_list ++ q ∷ []) = λ y h.
          omega (arith, count_append y (lists m processor_list) (q ∷ [])) in
          let keep : (p : ℕ) → 1 ≤ count p (lists m processor_list) → waiting_for (memory_of (Model.done m2 len)) p ≡ waiting_for m p = λ p h.
          waits_same c.base (posts d2) p (more p h) ∙ waits_same b ps1 p h in
          let qc : 1 ≤ count q (lists m processor_list ++ q ∷ []) = count_mid q (lists m processor_list) [] in
          crp_page_each m Ends e n r v a len (λ y. absurd (z y)) (λ y. record {
            told = record {
              at = λ p h i y f. rw (of_none p, keep p (rw lm at h), append-nil (waiting_for m p));
              keeps = λ p h i.
                  let j = rw lm at h in
                  label_same d2 p (more p j) ∙ created_label t.base n r v a n1 n2 r1 r2 fr p j ∙ label_same s1 p j;
              born = λ p h i.
                  let pq : p ≡ q = new p q (omega (arith, ap (count p) pr, count_append p (lists m processor_list) (q ∷ []), ap (count p) lm)) in
                  let lq : word (memory_of (Model.done m2 len)) q label ≡ pair r n =
                  label_same d2 q qc ∙ created_own t.base n r v a n1 n2 r1 r2 fr in
                  let up : upper (pair r n) ≡ r = omega arith in
                  rw pq (
                    waits_same c.base (posts d2) q qc ∙ created_empty t.base n r v a n1 n2 r1 r2 fr,
                    record {
                      creator = rw lm hr;
                      most = rw (lq, up) under;
                    },
                  );
            };
            stands = stands_none m3;
            -- by pages: those of the ones that lived stay, and the new one has none
            traced = record {
              pages = λ p w x h i u v j.
                  let l = rw lm at h in
                  let a = posts_waited c.base (posts d2) p w x (more p l) u v j in
                  let o = posts_waited b ps1 p a.0.head x l a.0.low a.0.high a.0.here in
                  unchanged (record {
                    head = o.0.head;
                    low = o.0.low;
                    high = o.0.high;
                    here = o.0.here;
                    note = a.0.note ∙ o.0.note;
                  }) (a.1 ∙ o.1) (some_page m3 (place p w) x j) (λ f r k g. rw pr (more r (rw lm at k)));
              about = tt;
              turned = λ p h. none_turned m3 p;
              written = tt;
            };
          })
        where
          new : (p q : ℕ) → 1 ≤ count p (q ∷ []) → p ≡ q
          new p q h = cases (hit_or p q)
            where
              cases : (p ≡ q) ⊎ (p ≢ q) → p ≡ q
              cases (inl y) = y
              cases (inr y) = absurd (omega (arith, hit_other p q y))

  pub crp_lawful : (n r v a len : ℕ) → n < 16 → r < 16 → Lawful m (memory_of (Model.crp m n r v a len)) nothing
  crp_lawful n r v a len hn hr =
      crp_each bad n r v a len (λ g. crp_page_lem n r v a len g.name (omega arith) g.priority (omega arith) g.under g.unnamed)
