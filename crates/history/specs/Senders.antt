-- Notices to a namesake (document 02, 3/13), over any run: unmarked mail is of the life that has its sender's name now, marked mail of one that is over; so a
-- notice is about mail that the very life which gets it has sent. Assumes nothing.
use Rattle.std.specs.Prelude.{◌≡◌, ◌≢◌, ◌⊎◌, Bool, ℕ, suc, ◌≤◌, length}
use Rattle.std.proofs.Math.Path.{refl, sym, ap}
use Rattle.std.proofs.Common.{◌∙◌, inl, inr, arith, length-append}
use Rattle.std.proofs.Math.Bool.{true, false}
use mathlib.Core.List.{List, [], ◌∷◌, ◌++◌, map}
use Rattle.std.proofs.lemmas.List.{length-map}
use Rattle.std.proofs.Math.Dec.{eqb}
use borrow.Author.Tests.{eqb-true, eqb-false, eq-eqb, ne_eqb, le-leb, ltb-true, ltb-false}
use Rattle.model.specs.Map.{is_unmarked, lower, mark, notice, place, processor_list, q1, q2, size, upper}
use Rattle.model.specs.Bytes.{is_notice, lists, name, processors, queue, running, sender, unmarked, word}
use Rattle.model.specs.Lists.{count}
use Rattle.laws.specs.Count.{count_append, hit_or, zero_or}
use Rattle.laws.specs.Inv.{Base, no_one, view}
use Rattle.laws.specs.Judged.{invariant}
use Rattle.laws.specs.Grants.{each_two}
use Rattle.laws.specs.Who.{listed}
use Rattle.laws.specs.Calls.{Act, Sound, after, reached_sound, well}
use Rattle.history.specs.Order.{only_nil, only_append}
use Rattle.history.specs.Letter.{Letter, mail_of, waiting_for}
use Rattle.history.specs.Put.{Mailed, mailed, of, only_notices}
use Rattle.history.specs.Traced.{About, Each, Lawful, Origin, Turned, each_append, each_as}
use Rattle.history.specs.Traced.About.{own, back}
use Rattle.history.specs.Traced.Origin.{unchanged, newly_marked, sent, notified}
use Rattle.history.specs.Whole.{instruction_lawful}
use Rattle.history.specs.Lives.{Life, Living, Past, Run, grown, later, life, lives, mail_by, none_yet, restarts}
use Rattle.history.specs.Lives.{run_has, run_reached, sent_by}

-- ---- a processor that lives, has the name of the sender of message x, and is the life that sent it
pub record SentBy (m : List ℕ) (h : Past) (x : ℕ) : Type 0 where
  pub who : ℕ
  pub living : Living m who
  pub named : name m who ≡ sender m x
  pub is : h.by x ≡ life h who

-- of message x, which is mail: unmarked, its sender lives; marked, it is over
pub record Known (m : List ℕ) (h : Past) (x : ℕ) : Type 0 where
  pub began : (h.by x).since ≤ h.calls
  pub unmarked : is_unmarked (word m x size) ≡ true → SentBy m h x
  pub marked : is_unmarked (word m x size) ≡ false → (r : ℕ) → Living m r → h.by x ≢ life h r

-- x waits for p, in Q1 or Q2
abbrev pub WaitsAt : List ℕ → ℕ → ℕ → ℕ → Type 0
WaitsAt m p w x = (q1 ≤ w) × (w ≤ q2) × (1 ≤ count x (queue m (place p w)))

-- each notice is about mail of the life that got it
abbrev pub Own : Past → ℕ → Type 0
Own h p = Each (λ (l : Life). l ≡ life h p) (h.noticed p)

pub record Senders (m : List ℕ) (h : Past) : Type 0 where
  pub began : (p : ℕ) → Living m p → h.since p ≤ h.calls
  pub mail : (p w x : ℕ) → Living m p → WaitsAt m p w x → word m x size ≢ notice → Known m h x
  pub own : (p : ℕ) → Living m p → Own h p

-- one name, one processor
abbrev OneEach : List ℕ → Type 0
OneEach m = (p r : ℕ) → Living m p → Living m r → name m p ≡ name m r → p ≡ r

one_each : {m : List ℕ} → Sound m → OneEach m
one_each {m} k p r i j e = go (hit_or p r)
  where
    b : Base m (lists m processor_list) (lists m) (view m) [] no_one
    b = (invariant (well k)).base

    go : (p ≡ r) ⊎ (p ≢ r) → p ≡ r
    go (inl z) = z
    go (inr z) =
        let l = rw (listed b) at j in
        absurd (omega (arith, each_two (λ v. name m v) p r (lists m processor_list) z e (rw (listed b) at i) l, b.facts.names.differ r l))

-- for whom nothing waits has no message
none_waits : (m : List ℕ) (p w x : ℕ) → waiting_for m p ≡ [] → WaitsAt m p w x → ⊥
unfolding waiting_for
none_waits m p w x e h = go (hit_or w q1) (empty (queue m (place p q2) ++ queue m (place p q1)) e)
  where
    empty : (xs : List ℕ) → map (mail_of m) xs ≡ [] → count x xs ≡ 0
    empty [] f = refl
    empty (y ∷ ys) f = let z = ap length f in absurd (omega arith)

    go : (w ≡ q1) ⊎ (w ≢ q1) → count x (queue m (place p q2) ++ queue m (place p q1)) ≡ 0 → ⊥
    go (inl f) z = let c = rw f at h.2 in omega (arith, count_append x (queue m (place p q2)) (queue m (place p q1)))
    go (inr f) z =
        let g : w ≡ q2 = omega (arith, h.0, h.1) in
        let c = rw g at h.2 in
        omega (arith, count_append x (queue m (place p q2)) (queue m (place p q1)))

-- ---- from one memory to the next
module _ (m m' : List ℕ) (e : Mailed) (h : Past) where
  pub since_on : (p : ℕ) → Living m p → Living m' p → (grown m m' e h).since p ≡ h.since p
  unfolding grown lives
  since_on p i j = rw (le-leb 1 (count p (processors m)) i, le-leb 1 (count p (processors m')) j)

  pub since_new : (p : ℕ) → count p (processors m) ≡ 0 → (grown m m' e h).since p ≡ suc h.calls
  unfolding grown lives
  since_new p i = rw i

  pub life_on : (p : ℕ) → Living m p → Living m' p → life (grown m m' e h) p ≡ life h p
  life_on p i j = rw (since_on p i j)

  pub calls_on : (grown m m' e h).calls ≡ suc h.calls
  unfolding grown
  calls_on = refl

  pub by_wrote : (x : ℕ) → x ≡ e.wrote → (grown m m' e h).by x ≡ life h (running m)
  unfolding grown sent_by
  by_wrote x d = rw (eq-eqb x e.wrote d)

  pub by_other : (x : ℕ) → x ≢ e.wrote → (grown m m' e h).by x ≡ h.by x
  unfolding grown sent_by
  by_other x d = rw (ne_eqb x e.wrote d)

  noticed_on : (p : ℕ) → Living m p → Living m' p → (grown m m' e h).noticed p ≡ h.noticed p ++ map (sent_by m e h) (of p e.about)
  unfolding grown lives
  noticed_on p i j = rw (le-leb 1 (count p (processors m)) i, le-leb 1 (count p (processors m')) j)

  put_on : (p : ℕ) → Living m p → Living m' p → (grown m m' e h).put p ≡ h.put p ++ of p e.puts
  unfolding grown lives
  put_on p i j = rw (le-leb 1 (count p (processors m)) i, le-leb 1 (count p (processors m')) j)

  put_new : (p : ℕ) → count p (processors m) ≡ 0 → (grown m m' e h).put p ≡ []
  unfolding grown lives
  put_new p i = rw i

  noticed_new : (p : ℕ) → count p (processors m) ≡ 0 → (grown m m' e h).noticed p ≡ []
  unfolding grown lives
  noticed_new p i = rw i

module _ {m m' : List ℕ} {e : Mailed} (t : Lawful m m' e) (one : OneEach m) (h : Past) (k : Senders m h) where
  abbrev h' : Past
  h' = grown m m' e h

  -- a life that began before is none that begins now
  older : (x r : ℕ) → (h.by x).since ≤ h.calls → count r (processors m) ≡ 0 → h.by x ≢ life h' r
  older x r l z f = let g = ap (λ (v : Life). v.since) f in omega (arith, since_new m m' e h r z)

  -- ---- mail
  mail_on : (p w x : ℕ) → Living m' p → WaitsAt m' p w x → word m' x size ≢ notice → Origin m m' e p x → Living m p → Known m' h' x
  mail_on p w x i c n (notified f) j = absurd (n f)
  mail_on p w x i c n (sent f l s a b) j =
      let is = by_wrote m m' e h x f in
      record {
        began = rw is (omega (arith, k.began (running m) a, calls_on m m' e h));
        unmarked = λ u. record {
          who = running m;
          living = b;
          named = ap (λ (v : ℕ). lower v) (t.told.keeps (running m) a b) ∙ sym s;
          is = is ∙ sym (life_on
              m m' e h (running m) a b);
        };
        marked = λ u r g. absurd (omega (arith, ltb-false (word m' x size) mark u));
      }
  mail_on p w x i c n (unchanged o s d f) j =
      let known = k.mail p o.head x j (o.low, o.high, o.here) (λ z. n (s ∙ z)) in
      let is = by_other m m' e h x d in
      record {
        began = rw is (omega (arith, known.began, calls_on m m' e h));
        unmarked = λ u.
            let u0 : is_unmarked (word m x size) ≡ true = rw s at u in
            let b = known.unmarked u0 in
            let l = f u0 b.who b.living b.named in
            record {
              who = b.who;
              living = l;
              named = ap (λ (v : ℕ). lower v) (t.told.keeps b.who b.living l) ∙ b.named ∙ ap (λ (v : ℕ). upper v) (sym o.note);
              is = is ∙ b.is ∙ sym (life_on m m' e h b.who b.living l);
            };
        marked = λ u r g. rw is (over known.began (known.marked (rw s at u)) r g (zero_or (count r (processors m))));
      }
    where
      over : (h.by x).since ≤ h.calls → ((r : ℕ) → Living m r → h.by x ≢ life h r) → (r : ℕ) → Living m' r
          → (count r (processors m) ≡ 0) ⊎ (1 ≤ count r (processors m)) → h.by x ≢ life h' r
      over l g r q (inl z) = older x r l z
      over l g r q (inr z) = rw (life_on m m' e h r z q) (g r z)
  mail_on p w x i c n (newly_marked o s d u f) j =
      let low = ltb-true (word m x size) mark u in
      let known = k.mail p o.head x j (o.low, o.high, o.here) (omega arith) in
      let is = by_other m m' e h x d in
      let b = known.unmarked u in
      record {
        began = rw is (omega (arith, known.began, calls_on m m' e h));
        unmarked = λ v. absurd (omega (arith, ltb-true (word m' x size) mark v));
        marked = λ v r g z.
            let q = ap (λ (l : Life). l.page) (sym b.is ∙ sym is ∙ z) in
            omega (arith, f b.who b.living b.named, ap (λ (l : ℕ). count l (processors m')) q);
      }

  mail : (p w x : ℕ) → Living m' p → WaitsAt m' p w x → word m' x size ≢ notice → Known m' h' x
  mail p w x i c n = go (zero_or (count p (processors m)))
    where
      go : (count p (processors m) ≡ 0) ⊎ (1 ≤ count p (processors m)) → Known m' h' x
      go (inl z) = absurd (none_waits m' p w x (t.told.born p z i).0 c)
      go (inr j) = mail_on p w x i c n (t.traced.pages p w x j i c.0 c.1 c.2) j

  -- ---- notices: to whom it goes is the life that sent what it is about
  pub about_own : (to page : ℕ) → About m e.wrote to page → sent_by m e h page ≡ life h to
  unfolding sent_by
  about_own to page (own f g l) = rw (eq-eqb page e.wrote f, g)
  about_own to page (back d p w j l v c u i n) =
      let low = ltb-true (word m page size) mark u in
      let b = (k.mail p w page j (l, v, c) (omega arith)).unmarked u in
      let q = one b.who to b.living i (b.named ∙ sym n) in
      rw (ne_eqb page e.wrote d) (b.is ∙ ap (λ (z : ℕ). life h z) q)

  all_own : (p : ℕ) (l : List (ℕ × ℕ)) → Each (λ (y : ℕ × ℕ). About m e.wrote y.0 y.1) l
      → Each (λ (x : Life). x ≡ life h p) (map (sent_by m e h) (of p l))
  unfolding of
  all_own p [] a = tt
  all_own p (y ∷ l) a = go (eqb p y.0) refl (all_own p l a.1)
    where
      go : (c : Bool) → eqb p y.0 ≡ c → Each (λ (x : Life). x ≡ life h p) (map (sent_by m e h) (of p l))
          → Each (λ (x : Life). x ≡ life h p) (map (sent_by m e h) (of p (y ∷ l)))
      go true f ih = rw (f, of) (about_own y.0 y.1 a.0 ∙ ap (λ (z : ℕ). life h z) (sym (eqb-true p y.0 f)), ih)
      go false f ih = rw (f, of) ih

  own_on : (p : ℕ) → Living m' p → Own h' p
  own_on p i = go (zero_or (count p (processors m)))
    where
      go : (count p (processors m) ≡ 0) ⊎ (1 ≤ count p (processors m)) → Own h' p
      go (inl z) = rw (noticed_new m m' e h p z) tt
      go (inr j) =
          rw (noticed_on m m' e h p j i, life_on m m' e h p j i) (each_append (λ (l : Life). l ≡ life h p) (h.noticed p) (map (sent_by m e h) (of p e.about))
          (k.own p j) (all_own p e.about t.traced.about))

  began_on : (p : ℕ) → Living m' p → h'.since p ≤ h'.calls
  began_on p i = go (zero_or (count p (processors m)))
    where
      go : (count p (processors m) ≡ 0) ⊎ (1 ≤ count p (processors m)) → h'.since p ≤ h'.calls
      go (inl z) = omega (arith, since_new m m' e h p z, calls_on m m' e h)
      go (inr j) = omega (arith, since_on m m' e h p j i, calls_on m m' e h, k.began p j)

  pub senders_on : Senders m' (grown m m' e h)
  senders_on = record { began = began_on; mail = mail; own = own_on }

-- ---- the run
senders_start : (m : List ℕ) → ((p : ℕ) → Living m p → waiting_for m p ≡ []) → Senders m none_yet
senders_start m e = record {
  began = λ p i. omega arith;
  mail = λ p w x i c n. absurd (none_waits m p w x (e p i) c);
  own = λ p i. tt;
}

pub senders : (m : List ℕ) (h : Past) → Run m h → Senders m h
senders = run_has Senders senders_start (λ m m' e k t h q. senders_on t (one_each k) h q)

-- ---- what follows, at any point of any run
module _ (m : List ℕ) (h : Past) (r : Run m h) where
  pub living_sender : (p w x : ℕ) → Living m p → WaitsAt m p w x → unmarked m x ≡ true → SentBy m h x
  living_sender p w x i c u = let l = ltb-true (word m x size) mark u in ((senders m h r).mail p w x i c (omega arith)).unmarked u

  pub gone_sender : (p w x : ℕ) → Living m p → WaitsAt m p w x → unmarked m x ≡ false → is_notice m x ≡ false → (q : ℕ) → Living m q → h.by x ≢ life h q
  gone_sender p w x i c u n = ((senders m h r).mail p w x i c (eqb-false (word m x size) notice n)).marked u

  pub own_notices : (p : ℕ) → Living m p → Own h p
  own_notices = (senders m h r).own

  -- what an instruction puts now
  pub notice_to_sender : Each (λ (y : ℕ × ℕ). sent_by m (mailed m) h y.1 ≡ life h y.0) (mailed m).about
  notice_to_sender =
      let k = reached_sound m (run_reached m h r) in
      let t = instruction_lawful k in
      each_as (λ y a. about_own t (one_each k) h (senders m h r) y.0 y.1 a) (mailed m).about t.traced.about

  -- a life that begins now is none that was
  pub new_life : (p : ℕ) → Living m p → h.since p ≤ h.calls
  new_life = (senders m h r).began

-- ---- how the past knows lives and senders
module _ (a : Act) (m : List ℕ) (h : Past) (e : restarts a ≡ false) where
  -- a life that goes on is the same life; one that begins now has a number of its own
  pub life_goes_on : (p : ℕ) → Living m p → Living (after a m) p → life (later a m h) p ≡ life h p
  unfolding later
  life_goes_on p i j = rw e (life_on m (after a m) (mail_by a m) h p i j)

  pub life_begins : (p : ℕ) → count p (processors m) ≡ 0 → (later a m h).since p ≡ suc h.calls
  unfolding later
  life_begins p i = rw e (since_new m (after a m) (mail_by a m) h p i)

  -- the one that runs sends what it writes; every other page's message is of whom it was
  pub runner_sends : (x : ℕ) → x ≡ (mail_by a m).wrote → (later a m h).by x ≡ life h (running m)
  unfolding later
  runner_sends x i = rw e (by_wrote m (after a m) (mail_by a m) h x i)

  pub sender_stays : (x : ℕ) → x ≢ (mail_by a m).wrote → (later a m h).by x ≡ h.by x
  unfolding later
  sender_stays x i = rw e (by_other m (after a m) (mail_by a m) h x i)

  -- who lives on was noticed of what it was noticed of before, and of what this call puts
  pub noticed_grows : (p : ℕ) → Living m p → Living (after a m) p
      → (later a m h).noticed p ≡ h.noticed p ++ map (sent_by m (mail_by a m) h) (of p (mail_by a m).about)
  unfolding later
  noticed_grows p i j = rw e (noticed_on m (after a m) (mail_by a m) h p i j)

-- ---- of each notice that was put it is known what it is about
pub notices_counted : (m : List ℕ) (h : Past) → Run m h → (p : ℕ) → Living m p → length (h.noticed p) ≡ length (only_notices (h.put p))
notices_counted =
    run_has (λ m h. (p : ℕ) → Living m p → length (h.noticed p) ≡ length (only_notices (h.put p)))
    (λ m e p i. rw (only_nil (λ (x : Letter). x.notice)))
    (λ m m' e k t h q p i. go m m' e h p i (counted m' e p (t.traced.turned p i)) (q p) (zero_or (count p (processors m))))
  where
    counted : (m' : List ℕ) (e : Mailed) (p : ℕ) → Turned m' p (of p e.about) (only_notices (of p e.puts))
        → length (of p e.about) ≡ length (only_notices (of p e.puts))
    counted m' e p t = sym (length-map (of p e.about) (mail_of m')) ∙ ap length t.are

    go : (m m' : List ℕ) (e : Mailed) (h : Past) (p : ℕ) → Living m' p → length (of p e.about) ≡ length (only_notices (of p e.puts))
        → (Living m p → length (h.noticed p) ≡ length (only_notices (h.put p))) → (count p (processors m) ≡ 0) ⊎ (1 ≤ count p (processors m))
        → length ((grown m m' e h).noticed p) ≡ length (only_notices ((grown m m' e h).put p))
    go m m' e h p i c q (inl z) =
        rw (noticed_new m m' e h p z, put_new m m' e h p z, only_nil (λ (x : Letter). x.notice))
    go m m' e h p i c q (inr j) =
        rw (
          noticed_on m m' e h p j i,
          put_on m m' e h p j i,
          only_append (λ (x : Letter). x.notice) (h.put p) (of p e.puts),
          length-append,
          length-append,
          length-map (of p e.about) (sent_by m e h),
          c,
          q j,
        )
