-- DEP: what waits for every other processor grows by the notices to it, at the end of its Q1, in the order of the messages that are returned, Q2 then Q1; the
-- step law, and what was put stands. Assumes nothing.
use Rattle.std.specs.Prelude.{◌≡◌, ◌≢◌, ◌⊎◌, Bool, length, get_or, set, drop}
use Rattle.std.proofs.Math.Path.{refl}
use Rattle.std.proofs.Common.{sym, ap, ◌∙◌, inl, inr, arith, eqb-true, eq-eqb, ne_eqb, leb-true, lt-ltb, ltb-true}
use Rattle.std.proofs.Math.Bool.{true, false}
use mathlib.Core.List.{List, [], ◌∷◌, ◌++◌, append-nil, append_assoc, map}
use Prim.Native.Nat.{ℕ, ◌≤◌, ◌<◌}
use Rattle.std.proofs.lemmas.List.{length-map}
use Rattle.std.proofs.Math.Dec.{eqb}
use Rattle.std.proofs.lemmas.Bool.{eqb-false}
use Rattle.model.specs.Map.{control_pages, is_stopped, is_unmarked, lower, mark, notice}
use Rattle.model.specs.Map.{grant_for, label, note, place, processor_list, q1, q2, running_page, size, state}
use Rattle.model.specs.Bytes.{name, running, word}
use Rattle.model.specs.Delete as Delete
use Rattle.model.specs.Processor as Processor
use Rattle.model.specs.Answer.{memory_of}
use Rattle.model.specs.Bytes as Model
use Rattle.model.specs.Bytes.{lists, processors, queue, page_of, is_named, sender, give_back, emptied, mail_returned, grant_returned, delete}
use Rattle.model.specs.Lists.{count, Lists, some}
use Rattle.laws.specs.Count.{hit_self, hit_other, hit_or, count_append, count_mid}
use Rattle.laws.specs.Chain.{chain_move, split_at_page}
use Rattle.laws.specs.Queues.{upd, upd_same}
use Rattle.laws.specs.Uses.{proc_page}
use Rattle.laws.specs.Members.{count_more}
use Rattle.laws.specs.Inv.{View, view, Base}
use Rattle.laws.specs.Judged.{WellFormed}
use Rattle.laws.specs.Frames.{other}
use Rattle.laws.specs.Hands.{take_grant}
use Rattle.laws.specs.Grants.{give_back_lem, some_is, each_two}
use Rattle.laws.specs.Mails.{mail_queue}
use Rattle.laws.specs.Shrink.{gone, in_P}
use Rattle.laws.specs.Leave.{Bag, tot_short}
use Rattle.laws.specs.Marking.{Fate}
use Rattle.laws.specs.Marking.Fate.{marks, stays}
use Rattle.laws.specs.Simple.{first_in, named_in}
use Rattle.laws.specs.Who.{label_at, listed, busy}
use Rattle.laws.specs.Delete.{Queue, Drained, drain, facts_whole}
use Rattle.history.specs.Order.{only_nil, only_yes}
use Rattle.history.specs.Letter.{Letter, mail_of, map_append, waiting_for, Same, posts, label_same, waits_same, procs_same, queue_same, held, held_same}
use Rattle.history.specs.Ways.{dep_both}
use Rattle.history.specs.Put.{Log, Mailed, go_back, notice_from, notice_of, of, only_notices, returning, returns_to, notices, notices_about, dep_mail}
use Rattle.history.specs.Calm.{calm_low}
use Rattle.history.specs.Told.{of_none, of_yes, of_no, calm_done, runs_in}
use Rattle.history.specs.Traced.{Each, each_all, each_append, Waited, Origin, About, Turned, Lawful, some_page, posts_waited}
use Rattle.history.specs.Traced.Origin.{unchanged, newly_marked, notified}
use Rattle.history.specs.Traced.About.{back}
use Rattle.history.specs.Quiet.{fault_lawful}
use Rattle.history.specs.Returning.{back_append, Grown, grown_then, grown_same, give_grows}
use Rattle.history.specs.Emptying.{Aims, aims_on, emptied_grows}
use Rattle.history.specs.Leaving.{stayed, bag_procs, bag_q1, bag_q2}
use Rattle.history.specs.Settling.{k, marked, marked_aims, name_is, prior_last, prior_names, prior_pages, prior_waits}

-- ---- the invariant, and what was put since m
record After (m m1 : List ℕ) (ps : List ℕ) (l : Log) (a : List (ℕ × ℕ)) (hs : List ℕ) (g : ℕ) : Type 0 where
  lists : Lists
  view : View
  base : Base m1 ps lists view hs g
  grown : Grown ps m m1 l a

-- ---- Q2 then Q1
module _ (m0 : List ℕ) {m : List ℕ} (p n g : ℕ) (n1 : 1 ≤ n) (n2 : n ≤ 15) (is : n ≡ name m0 p) (t : Bag m p g)
    (a2 : Aims m0 p m t.q2) (a1 : Aims m0 p m t.q1) where
  abbrev rest : List ℕ
  rest = t.q1 ++ p ∷ []

  in_rest : 1 ≤ count p rest
  in_rest = count_mid p t.q1 []

  abbrev m1 : List ℕ
  m1 = emptied control_pages m n (place p q2)

  queue2 : Queue m t.procs p 6 t.q2 rest g
  queue2 = record {
    lists = t.lists;
    view = t.view;
    base = rw (append_assoc t.q2 t.q1 (p ∷ [])) at t.base;
    chain = t.chain2;
    letters = t.letters2;
  }

  short2 : length t.q2 ≤ 20
  short2 = tot_short queue2.base t.q2 (λ z. omega (arith, count_append z t.q2 (t.q1 ++ p ∷ [])))

  drained2 : Drained m m1 t.procs rest g (place p q2)
  drained2 = drain p q2 n (omega arith) (omega arith) n1 n2 t.procs rest g in_rest t.q2 control_pages short2 queue2

  grown2 : Grown t.procs m m1 (notices m0 p t.q2) (notices_about m0 p t.q2)
  grown2 = emptied_grows m0 p q2 n (omega arith) (omega arith) n1 n2 is t.procs rest g in_rest t.q2 control_pages short2 queue2 a2

  in1 : (y : ℕ) → 1 ≤ count y t.q1 → 1 ≤ count y rest
  in1 y i = omega (arith, count_append y t.q1 (p ∷ []))

  queue1 : Queue m1 t.procs p 5 t.q1 (p ∷ []) g
  queue1 = record {
    lists = drained2.lists;
    view = drained2.view;
    base = drained2.base;
    chain = chain_move m m1 0 (place p q1) (place p q1) t.q1 (drained2.still p q1 in_rest (omega arith) (omega arith)) (λ y i.
        drained2.still y 0 (in1 y i) (omega arith) (omega arith)) t.chain1;
    letters = record {
      at = λ y i.
          rw (drained2.still y 1 (in1 y i) (omega arith) (omega arith), drained2.still y 2 (in1 y i) (omega arith) (omega arith)) (t.letters1.at y i);
    };
  }

  aims1 : Aims m0 p m1 t.q1
  aims1 =
      aims_on t.base drained2.base grown2.names (λ y i. i) (λ y j i l k. drained2.still y j (in1 y i) (omega arith) (omega arith)) a1

  short1 : length t.q1 ≤ 20
  short1 = tot_short queue1.base t.q1 (λ z. omega (arith, count_append z t.q1 (p ∷ [])))

  one_p : 1 ≤ count p (p ∷ [])
  one_p = omega (arith, hit_self p)

  mail_after : After m (mail_returned m n p) t.procs (notices m0 p (t.q2 ++ t.q1)) (notices_about m0 p (t.q2 ++ t.q1)) (p ∷ []) g
  unfolding Delete.mail_returned
  mail_after =
      let d = drain p q1 n (omega arith) (omega arith) n1 n2 t.procs (p ∷ []) g one_p t.q1 control_pages short1 queue1 in
      let e = emptied_grows m0 p q1 n (omega arith) (omega arith) n1 n2 is t.procs (p ∷ []) g one_p t.q1 control_pages short1 queue1 aims1 in
      record {
        lists = d.lists;
        view = d.view;
        base = d.base;
        grown = rw (back_append (notice_of m0 p) m0 p t.q2 t.q1, back_append (λ y. y) m0 p t.q2 t.q1) (grown_then grown2 e);
      }

-- ---- a page given back after that
after_give : {m m1 : List ℕ} {ps : List ℕ} {l : Log} {a : List (ℕ × ℕ)} {hs : List ℕ} {g q : ℕ} → After m m1 ps l a (q ∷ hs) g
    → After m (give_back m1 q) ps l a hs g
after_give {l = l} {a = a} t =
    let r = give_back_lem t.base in
    record { lists = r.lists; view = r.view; base = r.base; grown = rw (append-nil l, append-nil a) at (grown_then t.grown (give_grows t.base)) }

-- ---- the grant of the name that is deleted
grant_after : {m m1 : List ℕ} {ps : List ℕ} {l : Log} {a : List (ℕ × ℕ)} {hs : List ℕ} (n : ℕ) → n < 32 → After m m1 ps l a hs n
    → After m (grant_returned m1 n) ps l a hs 32
unfolding Delete.grant_returned
grant_after {m} {m1} {ps} {l} {a} {hs} n u t = go (eqb (get_or m1 (grant_for n) 0) 0) refl
  where
    b : Base m1 ps t.lists t.view hs n
    b = t.base

    go : (c : Bool) → eqb (get_or m1 (grant_for n) 0) 0 ≡ c → After m (grant_returned m1 n) ps l a hs 32
    go true e =
        let z = eqb-true (get_or m1 (grant_for n) 0) 0 e in
        let k = ap length (b.mem.holds.grant n u) ∙ ap (λ (x : ℕ). length (some x)) z in
        rw e (record { lists = t.lists; view = t.view; base = record { mem = b.mem; facts = facts_whole k b.facts; all = b.all }; grown = t.grown })
    go false e =
        let x = get_or m1 (grant_for n) 0 in
        let z = eqb-false (get_or m1 (grant_for n) 0) 0 e in
        let b1 = take_grant b n x u (b.mem.holds.grant n u ∙ some_is x z) in
        let c1 : Same ps t.lists m1 (set m1 (grant_for n) 0) = calm_low b.facts.sep m1 (grant_for n) 0 (omega arith) (omega arith) in
        let g1 : Grown ps m1 (set m1 (grant_for n) 0) [] [] = grown_same b (posts c1) ps (λ y h. h) (λ y h.
        let pg = proc_page b.facts.sep y h in other m1 (grant_for n) 0 (place y label) (omega arith)) in
        rw e (after_give (record {
          lists = upd t.lists (grant_for n) [];
          view = t.view;
          base = record { mem = b1.mem; facts = facts_whole (ap length (upd_same t.lists (grant_for n) [])) b1.facts; all = b1.all };
          grown = rw (append-nil l, append-nil a) at (grown_then t.grown g1);
        }))

-- ---- "In order: ..; then its own page.": from where what it sent is marked
delete_after : (xs : List ℕ) (p : ℕ) (ys : List ℕ) {m : List ℕ} {L : Lists} {W : View} (b : Base m (xs ++ p ∷ ys) L W [] 32) (d : W.low running_page ≢ p)
    → After (k xs p ys b d) (delete m p) (xs ++ ys) (notices m p (L (place p q2) ++ L (place p q1)))
    (notices_about m p (L (place p q2) ++ L (place p q1))) [] 32
unfolding Delete.delete Delete.mail_settled
delete_after xs p ys {m} {L} {W} b d =
    let hp = in_P xs p ys in
    let n = lower (W.label p) in
    let r = b.facts.names.range p hp in
    let lp = label_at b p hp in
    let t = marked xs p ys b d in
    let e1 = bag_q1 xs p ys b d in
    let e2 = bag_q2 xs p ys b d in
    let a1 : Aims m p (k xs p ys b d) t.q1 = rw e1 (marked_aims xs p ys b d q1 (omega arith) (omega arith)) in
    let a2 : Aims m p (k xs p ys b d) t.q2 = rw e2 (marked_aims xs p ys b d q2 (omega arith) (omega arith)) in
    let x = mail_after m p n n r.name (omega arith) (name_is xs p ys b d) t a2 a1 in
    let y : After (k xs p ys b d) (mail_returned (k xs p ys b d) n p) (xs ++ ys) (notices m p (L (place p q2) ++ L (place p q1)))
    (notices_about m p (L (place p q2) ++ L (place p q1))) (p ∷ []) n =
    rw (bag_procs xs p ys b d, e1, e2) at x in
    rw lp (after_give (grant_after n (omega arith) y))

-- ---- all that a deletion puts are notices
all_notices : (m : List ℕ) (p : ℕ) (qs : List ℕ) (y : ℕ) → only_notices (of y (notices m p qs)) ≡ of y (notices m p qs)
unfolding go_back
all_notices m p [] y = rw (of_none {A = Letter} y, only_nil (λ (z : Letter). z.notice))
all_notices m p (q ∷ qs) y = go (eqb (returns_to m p q) 0) refl (hit_or y (returns_to m p q)) (all_notices m p qs y)
  where
    go : (c : Bool) → eqb (returns_to m p q) 0 ≡ c → (y ≡ returns_to m p q) ⊎ (y ≢ returns_to m p q)
        → only_notices (of y (notices m p qs)) ≡ of y (notices m p qs) → only_notices (of y (notices m p (q ∷ qs))) ≡ of y (notices m p (q ∷ qs))
    go true e d ih = rw (e, go_back) ih
    go false e (inl d) ih =
        let x : Letter = notice_from (name m p) (lower (word m q note)) in
        rw (
          e,
          go_back,
          of_yes y (returns_to m p q, notice_from (name m p) (lower (word m q note))) (notices m p qs) (eq-eqb y (returns_to m p q) d),
          only_yes (λ (z : Letter). z.notice) (notice_from (name m p) (lower (word m q note))) (of y (notices m p qs)) refl,
        ) (ap (λ (l : List Letter). x ∷ l) ih)
    go false e (inr d) ih =
        rw (e, go_back, of_no y (returns_to m p q, notice_from (name m p) (lower (word m q note))) (notices m p qs) (ne_eqb y (returns_to m p q) d)) ih

-- what follows the same number of letters
tail_same : {A : Type 0} (xs ys us vs : List A) → length xs ≡ length us → xs ++ ys ≡ us ++ vs → ys ≡ vs
tail_same [] ys [] vs l e = e
tail_same [] ys (u ∷ us) vs l e = absurd (omega arith)
tail_same (x ∷ xs) ys [] vs l e = absurd (omega arith)
tail_same (x ∷ xs) ys (u ∷ us) vs l e = tail_same xs ys us vs (omega arith) (ap (drop 1) e)

-- ---- the instruction
module _ {m : List ℕ} (w : WellFormed m) (d : running m ≢ 0) where
  open busy w d use {base as b, ready}

  module _ (p : ℕ) (h : 1 ≤ count p (lists m processor_list)) (n : running m ≢ p) where
    abbrev letters : Log
    letters = notices m p (queue m (place p q2) ++ queue m (place p q1))

    abbrev of_them : List (ℕ × ℕ)
    of_them = notices_about m p (queue m (place p q2) ++ queue m (place p q1))

    -- who is left was there, and only p is gone; what waits is as it was when it was marked, and the notices
    record Left : Type 0 where
      procs : List ℕ
      were : (y : ℕ) → 1 ≤ count y procs → 1 ≤ count y (processors m)
      but : (y : ℕ) → 1 ≤ count y (processors m) → y ≢ p → 1 ≤ count y procs
      gone : count p procs ≡ 0
      prior : List ℕ
      waits : (y : ℕ) → 1 ≤ count y procs → waiting_for prior y ≡ waiting_for m y
      last : (y : ℕ) → 1 ≤ count y procs → held prior y q1 ≡ held m y q1
      names : (y : ℕ) → 1 ≤ count y procs → word prior y label ≡ word m y label
      pages : (y w x : ℕ) → 1 ≤ count y procs → q1 ≤ w → w ≤ q2 → 1 ≤ count x (queue prior (place y w))
          → Waited m prior y x × Fate (name m p) (word m x note) (word m x size) (word prior x size)
      after : After prior (delete m p) procs letters of_them [] 32

    left : Left
    left =
        let r = split_at_page p (lists m processor_list) h in
        let c : Base m (r.0 ++ p ∷ r.1) (lists m) (view m) [] 32 = rw r.2 at b in
        record {
          procs = r.0 ++ r.1;
          were = λ y i. rw (listed b, r.2) (stayed r.0 p r.1 c y i);
          but = λ y i e. omega (arith, rw (listed b, r.2) at i, count_more r.0 p r.1 y, hit_other y p e);
          gone = gone r.0 p r.1 c.facts.sep;
          prior = k r.0 p r.1 c n;
          waits = prior_waits r.0 p r.1 c n;
          last = prior_last r.0 p r.1 c n;
          names = prior_names r.0 p r.1 c n;
          pages = prior_pages r.0 p r.1 c n;
          after =
              rw (mail_queue b p q2 h (omega arith) (omega arith), mail_queue b p q1 h (omega arith) (omega arith))
              (delete_after r.0 p r.1 c n);
        }

    module _ (len : ℕ) where
      abbrev m2 : List ℕ
      m2 = delete m p

      abbrev m3 : List ℕ
      m3 = memory_of (Model.done m2 len)

      t : After left.prior m2 left.procs letters of_them [] 32
      t = left.after

      ended : Same left.procs t.lists m2 m3
      ended = calm_done t.base.facts.sep m2 (runs_in t.base) len

      procs_are : processors m3 ≡ left.procs
      procs_are = procs_same t.base ended

      waits_are : (y : ℕ) → 1 ≤ count y (processors m3) → waiting_for m3 y ≡ waiting_for m y ++ of y letters
      waits_are y i =
          let j = rw procs_are at i in
          waits_same t.base (posts ended) y j ∙ t.grown.waits y j ∙ ap (λ (l : List Letter). l ++ of y letters) (left.waits y j)

      last_is : (y : ℕ) → 1 ≤ count y (processors m3) → held m3 y q1 ≡ held m y q1 ++ of y letters
      last_is y i =
          let j = rw procs_are at i in
          held_same t.base (posts ended) y q1 j (omega arith) (omega arith) ∙ t.grown.last y j
          ∙ ap (λ (l : List Letter). l ++ of y letters) (left.last y j)

      -- ---- by pages
      -- one name, one processor
      alone : (y : ℕ) → 1 ≤ count y (processors m) → name m y ≡ name m p → y ≡ p
      alone y i e = go (hit_or y p)
        where
          go : (y ≡ p) ⊎ (y ≢ p) → y ≡ p
          go (inl z) = z
          go (inr z) = absurd (omega (arith, each_two (λ v. name m v) y p (lists m processor_list) z e (rw (listed b) at i) h, b.facts.names.differ p h))

      abbrev mail : Mailed
      mail = returning m p (queue m (place p q2) ++ queue m (place p q1))

      from : (y w x : ℕ) → 1 ≤ count y (processors m3) → q1 ≤ w → w ≤ q2 → 1 ≤ count x (queue m3 (place y w)) → Origin m m3 mail y x
      from y w x i u v c = second (t.grown.pages y a.0.head x j a.0.low a.0.high a.0.here)
        where
          j : 1 ≤ count y left.procs
          j = rw procs_are at i

          a : Waited m2 m3 y x × (word m3 x size ≡ word m2 x size)
          a = posts_waited t.base (posts ended) y w x j u v c

          first : Waited m m3 y x → word m3 x size ≡ word left.prior x size → Fate (name m p) (word m x note) (word m x size) (word left.prior x size)
              → Origin m m3 mail y x
          first o e (marks l f g) =
              newly_marked o (e ∙ g) (some_page m3 (place y w) x c) (lt-ltb (word m x size) mark l) (λ r k q. rw (procs_are, alone r k (q ∙ f)) left.gone)
          first o e (stays l g) =
              unchanged o (e ∙ g) (some_page m3 (place y w) x c) (λ z r k q. rw procs_are (left.but r k (λ s.
              l (ltb-true (word m x size) mark z) (sym q ∙ ap (λ (z : ℕ). name m z) s))))

          second : (Waited left.prior m2 y x × (word m2 x size ≡ word left.prior x size)) ⊎ (word m2 x size ≡ notice) → Origin m m3 mail y x
          second (inr z) = notified (a.1 ∙ z)
          second (inl z) =
              let q = left.pages y z.0.head x j z.0.low z.0.high z.0.here in
              first (record {
                head = q.0.head;
                low = q.0.low;
                high = q.0.high;
                here = q.0.here;
                note = a.0.note ∙ z.0.note ∙ q.0.note;
              }) (a.1 ∙ z.1) q.1

      -- to whom a message goes back
      goes : (q : ℕ) → returns_to m p q ≢ 0
          → (is_unmarked (word m q size) ≡ true) × (1 ≤ count (returns_to m p q) (processors m)) × (name m (returns_to m p q) ≡ sender m q)
      unfolding returns_to Processor.is_named
      goes q o = go (is_unmarked (word m q size)) (eqb (sender m q) (name m p)) refl refl
        where
          go : (x y : Bool) → is_unmarked (word m q size) ≡ x → eqb (sender m q) (name m p) ≡ y
              → (is_unmarked (word m q size) ≡ true) × (1 ≤ count (returns_to m p q) (processors m)) × (name m (returns_to m p q) ≡ sender m q)
          go false y e f = absurd (o (rw e))
          go true true e f = absurd (o (rw (e, f)))
          go true false e f =
              let z : returns_to m p q ≡ page_of m (sender m q) = rw (e, f) in
              let i = first_in (is_named m (sender m q)) (processors m) (λ s. o (z ∙ s)) in
              (e, rw z i.0, rw z (eqb-true (name m (page_of m (sender m q))) (sender m q) i.1))

      backs : (w : ℕ) → q1 ≤ w → w ≤ q2 → (zs : List ℕ) → ((z : ℕ) → 1 ≤ count z zs → 1 ≤ count z (queue m (place p w)))
          → Each (λ (y : ℕ × ℕ). About m 0 y.0 y.1) (notices_about m p zs)
      unfolding go_back
      backs w u v [] i = tt
      backs w u v (q ∷ zs) i = go (eqb (returns_to m p q) 0) refl (backs w u v zs (λ z c. i z (omega arith)))
        where
          go : (c : Bool) → eqb (returns_to m p q) 0 ≡ c → Each (λ (y : ℕ × ℕ). About m 0 y.0 y.1) (notices_about m p zs)
              → Each (λ (y : ℕ × ℕ). About m 0 y.0 y.1) (notices_about m p (q ∷ zs))
          go true e ih = rw (e, go_back) ih
          go false e ih =
              let g = goes q (eqb-false (returns_to m p q) 0 e) in
              let j = i q (omega (arith, hit_self q)) in
              rw (e, go_back) (back (some_page m (place p w) q j) p w (rw (listed b) h) u v j g.0 g.1 g.2, ih)

      -- the notices stand on the pages of the messages that came back
      turned : (y : ℕ) → 1 ≤ count y left.procs → Turned m3 y (of y of_them) (of y letters)
      turned y i =
          let zs = queue left.prior (place y q1) in
          let q3 : queue m3 (place y q1) ≡ queue left.prior (place y q1) ++ of y of_them =
          queue_same t.base (posts ended) y q1 i (omega arith) (omega arith)
          ∙ sym (mail_queue t.base y q1 i (omega arith) (omega arith)) ∙ t.grown.ends y i in
          let l3 : map (mail_of m3) (queue m3 (place y q1)) ≡ held m y q1 ++ of y letters = last_is y (rw procs_are i) in
          let s3 : map (mail_of m3) zs ++ map (mail_of m3) (of y of_them) ≡ held m y q1 ++ of y letters =
          sym (map_append (mail_of m3) zs (of y of_them)) ∙ sym (ap (map (mail_of m3)) q3) ∙ l3 in
          record {
            before = zs;
            last = q3;
            are = tail_same (map (mail_of m3) zs) (map (mail_of m3) (of y of_them)) (held m y q1) (of y letters)
                (length-map zs (mail_of m3) ∙ sym (length-map zs (mail_of left.prior)) ∙ ap length (left.last y i)) s3;
          }

      deleted_lawful : Lawful m m3 mail
      deleted_lawful = record {
        told = record {
          at = λ y h i k f. rw (of_none y, waits_are y i);
          keeps = λ y h i. (let j = rw procs_are at i in label_same ended y j ∙ t.grown.names y j ∙ left.names y j);
          born = λ y h i. absurd (omega (arith, left.were y (rw procs_are at i)));
        };
        stands = record { at = λ y i. (held m y q1, last_is y i) };
        traced = record {
          pages = λ y w x i j u v c. from y w x j u v c;
          about =
              rw (back_append (λ y. y) m p (queue m (place p q2)) (queue m (place p q1))) (each_append (λ (y : ℕ × ℕ). About m 0 y.0 y.1)
              (notices_about m p (queue m (place p q2))) (notices_about m p (queue m (place p q1)))
              (backs q2 (omega arith) (omega arith) (queue m (place p q2)) (λ z c. c))
              (backs q1 (omega arith) (omega arith) (queue m (place p q1)) (λ z c. c)));
          turned = λ y i. rw (all_notices m p (queue m (place p q2) ++ queue m (place p q1)) y) (turned y (rw procs_are at i));
          written = each_all (λ y o. absurd (o refl)) letters;
        };
      }

  -- "10 NI isn't stopped": the one that runs is not
  others : (p : ℕ) → is_stopped (word m p state) ≡ true → running m ≢ p
  others p e q =
      let l = leb-true 128 (word m p state) e in
      let c = ap (λ (y : ℕ). word m y state) q in
      omega (arith, ready)

  pub dep_lawful : (n len : ℕ) → Lawful m (memory_of (Model.named m 12 n len)) (dep_mail m n)
  dep_lawful n len = dep_both m (λ o e. Lawful m (memory_of o) e) (λ f i j. fault_lawful w d f) n len (λ g.
      deleted_lawful (page_of m n) (named_in b n g.found) (others (page_of m n) g.stopped) len)
