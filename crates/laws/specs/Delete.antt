-- Deleting: "Q2 then Q1 from the front: a message whose sender's name exists becomes a notice from NI to it with its flag, all others and all notices are
-- given back; then the grant; then its own page". DEP leaves a well-formed memory; with it ST1 and STP, which share its faults. Assumes nothing.
use Rattle.std.specs.Prelude.{◌≡◌, ◌≢◌, Bool, List, [], ◌∷◌, ◌++◌, ℕ, zero, suc, ◌≤◌, ◌<◌, length, get_or, set}
use Rattle.std.proofs.Math.Path.{refl}
use Rattle.std.proofs.Common.{sym, ap, ◌∙◌, append_assoc, arith, eqb-true, eq-eqb, ne_eqb, leb-true}
use Rattle.std.proofs.Math.Bool.{true, false}
use Rattle.std.proofs.Math.Dec.{eqb}
use Rattle.std.proofs.lemmas.Bool.{eqb-false}
use Rattle.model.specs.Map.{control_pages, grant_for, is_unmarked, last_flag, last_name, link, lower, note, page_size, place, q1, q2, running_page, size}
use Rattle.model.specs.Map.{state, upper}
use Rattle.model.specs.Bytes.{running, store, word, lists, leave, give_back, deliver, make_notice, page_of, returned, emptied, mail_returned}
use Rattle.model.specs.Bytes.{grant_returned, delete}
use Rattle.model.specs.Delete as Delete
use Rattle.model.specs.Bytes as Model
use Rattle.model.specs.Lists.{count, Lists, some}
use Rattle.laws.specs.Count.{hit_self, count_append, count_mid}
use Rattle.laws.specs.Chain.{Page, Chain, NoDup, chain_move, chain_leave, leave_is}
use Rattle.laws.specs.Queues.{upd_same}
use Rattle.laws.specs.Heads.{one_le}
use Rattle.laws.specs.Uses.{proc_page}
use Rattle.laws.specs.Inv.{Base, Facts, Message, View, no_one}
use Rattle.laws.specs.Judged.{WellFormed}
use Rattle.laws.specs.Frames.{other, only_refl, only_set}
use Rattle.laws.specs.Views.{retold}
use Rattle.laws.specs.Changes.{hand_page}
use Rattle.laws.specs.Hands.{hand_base, in_hand, take_grant}
use Rattle.laws.specs.Who.{busy}
use Rattle.laws.specs.Grants.{Any, any_of, give_back_lem, some_is}
use Rattle.laws.specs.Post.{retold_letter, notice_only, notice_letter, notice_base}
use Rattle.laws.specs.Aside.{give_still, deliver_still}
use Rattle.laws.specs.Leave.{Letters, Bag, tot_short, unlisted_bag}
use Rattle.laws.specs.Marking.{marked_bag}
use Rattle.laws.specs.Ends.{Fine, start_base, stop_base, done_fine}
use Rattle.laws.specs.Ways.{named_each}
use Rattle.laws.specs.Simple.{named_in, bad}
use Rattle.laws.specs.Stores.{only_word}

-- ---- one message returned: the words of the pages that stay in hand stay
pub record Returned (m m1 : List ℕ) (ps : List ℕ) (hs : List ℕ) (g : ℕ) : Type 0 where
  pub lists : Lists
  pub view : View
  pub base : Base m1 ps lists view hs g
  pub still : (y j : ℕ) → 1 ≤ count y hs → j < page_size → word m1 y j ≡ word m y j

module _ {m : List ℕ} {ps : List ℕ} {L : Lists} {W : View} {hs : List ℕ} {g q : ℕ} (b : Base m ps L W (q ∷ hs) g) where
  given : Returned m (give_back m q) ps hs g
  given = let t = give_back_lem b in record { lists = t.lists; view = t.view; base = t.base; still = λ y j h l. give_still b y j h l }

  not_q : (y : ℕ) → 1 ≤ count y hs → y ≢ q
  not_q y h e = omega (arith, b.all q, one_le q, hit_self q, ap (λ (z : ℕ). count z hs) e)

  notice_still : (n f p y j : ℕ) → 1 ≤ n → n ≤ last_name → 1 ≤ f → f ≤ last_flag → 1 ≤ count p ps → 1 ≤ count y hs → j < page_size
      → word (deliver (make_notice m q n f) p q) y j ≡ word m y j
  notice_still n f p y j n1 n2 f1 f2 hp h l =
      let o = notice_only b n f in
      deliver_still (hand_base q (in_hand b) o b) y j h l p hp (retold_letter b o (notice_letter b n f n1 n2 f1 f2)) ∙ only_word o y j (not_q y h) l

  pub returned_base : (n : ℕ) → 1 ≤ n → n ≤ last_name → Message (word m q note) (word m q size) → Returned m (returned m n q) ps hs g
  unfolding Delete.returned Delete.noticed
  returned_base n n1 n2 t = go (is_unmarked (word m q size)) (eqb (page_of m (upper (word m q note))) 0) refl refl
    where
      go : (x y : Bool) → is_unmarked (word m q size) ≡ x → eqb (page_of m (upper (word m q note))) 0 ≡ y → Returned m (returned m n q) ps hs g
      go false y e f = rw e given
      go true true e f = rw (e, f) given
      go true false e f =
          let p = page_of m (upper (word m q note)) in
          let fl = lower (word m q note) in
          let hp = named_in b (upper (word m q note)) (eqb-false p 0 f) in
          let r = notice_base b n fl p n1 n2 t.flag t.small hp in
          rw (e, f) (record { lists = r.lists; view = r.view; base = r.base; still = λ y j h l. notice_still n fl p y j n1 n2 t.flag t.small hp h l })

-- ---- one queue emptied
pub emptied_end : (i : ℕ) (m : List ℕ) (n h : ℕ) → get_or m h 0 ≡ 0 → emptied i m n h ≡ m
unfolding Delete.emptied
emptied_end zero m n h e = refl
emptied_end (suc i) m n h e = rw (eq-eqb (get_or m h 0) 0 e, Delete.emptied)

emptied_step : (i : ℕ) (m : List ℕ) (n h : ℕ) → get_or m h 0 ≢ 0 → emptied (suc i) m n h ≡ emptied i (returned (leave m h link (get_or m h 0)) n (get_or m h 0)) n h
unfolding Delete.emptied
emptied_step i m n h d = rw (ne_eqb (get_or m h 0) 0 d, Delete.emptied)

pub emptied_next : (i : ℕ) (m : List ℕ) (n h x : ℕ) → get_or m h 0 ≡ x → x ≢ 0 → emptied (suc i) m n h ≡ emptied i (returned (leave m h link x) n x) n h
emptied_next i m n h x e d = emptied_step i m n h (λ z. d (sym e ∙ z)) ∙ ap (λ (y : ℕ). emptied i (returned (leave m h link y) n y) n h) e

-- from m on, the words of the pages rest stay, but for the header h
pub record Drained (m m1 : List ℕ) (ps : List ℕ) (rest : List ℕ) (g h : ℕ) : Type 0 where
  pub lists : Lists
  pub view : View
  pub base : Base m1 ps lists view rest g
  pub still : (y j : ℕ) → 1 ≤ count y rest → j < page_size → place y j ≢ h → word m1 y j ≡ word m y j

-- word w of page p heads the queue xs; p and xs are in hand
pub record Queue (m : List ℕ) (ps : List ℕ) (p w : ℕ) (xs rest : List ℕ) (g : ℕ) : Type 0 where
  pub lists : Lists
  pub view : View
  pub base : Base m ps lists view (xs ++ rest) g
  pub chain : Chain m link (place p w) xs
  pub letters : Letters m xs

module _ (p w n : ℕ) (u : q1 ≤ w) (v : w ≤ q2) (n1 : 1 ≤ n) (n2 : n ≤ last_name) (ps rest : List ℕ) (g : ℕ) (hp : 1 ≤ count p rest) where
  abbrev h : ℕ
  h = place p w

  -- the first message leaves its queue
  module _ {m : List ℕ} {x : ℕ} {xs : List ℕ} (q : Queue m ps p w (x ∷ xs) rest g) where
    in_p : 1 ≤ count p (x ∷ xs ++ rest)
    in_p = omega (arith, count_append p xs rest)

    pg : Page p
    pg = hand_page q.base p in_p

    px : Page x
    px = hand_page q.base x (omega (arith, hit_self x))

    once : NoDup (x ∷ xs)
    once z = omega (arith, q.base.all z, one_le z, count_append z xs rest)

    apart : (y : ℕ) → 1 ≤ count y rest → y ≢ x
    apart y i e = omega (arith, q.base.all x, one_le x, hit_self x, count_append x xs rest, ap (λ (z : ℕ). count z rest) e)

    abbrev pub m1 : List ℕ
    m1 = store (set m h (word m x link)) x link 0

    pub left : leave m h link x ≡ m1
    left = leave_is m 0 h x [] xs q.chain (omega arith) refl

    chain1 : Chain m1 link h xs
    chain1 = chain_leave m 0 h x [] xs q.base.mem.size (omega (arith, pg)) (omega arith) (λ z i. omega arith) once q.chain

    pub base1 : Base m1 ps q.lists (retold m1 (retold (set m h (word m x link)) q.view p) x) (x ∷ xs ++ rest) g
    base1 =
        hand_base x (omega (arith, hit_self x)) (only_set (place x link) 0 (omega arith) (omega arith) (only_refl x (set m h (word m x link))))
        (hand_base p in_p (only_set h (word m x link) (omega arith) (omega arith) (only_refl p m)) q.base)

    pub letter1 : (y : ℕ) → 1 ≤ count y (x ∷ xs) → Message (word m1 y note) (word m1 y size)
    letter1 y i =
        let s = set m h (word m x link) in
        rw (
          other s (place x link) 0 (place y note) (omega arith),
          other s (place x link) 0 (place y size) (omega arith),
          other m h (word m x link) (place y note) (omega arith),
          other m h (word m x link) (place y size) (omega arith),
        ) (q.letters.at y i)

    -- and is returned
    abbrev pub m2 : List ℕ
    m2 = returned m1 n x

    pub back : Returned m1 m2 ps (xs ++ rest) g
    back = returned_base base1 n n1 n2 (letter1 x (omega (arith, hit_self x)))

    rest_in : (y : ℕ) → 1 ≤ count y rest → 1 ≤ count y (xs ++ rest)
    rest_in y i = omega (arith, count_append y xs rest)

    pub next : Queue m2 ps p w xs rest g
    next = record {
      lists = back.lists;
      view = back.view;
      base = back.base;
      chain = chain_move m1 m2 link h h xs (back.still p w (rest_in p hp) (omega arith)) (λ y i. back.still y link (omega (arith, count_append y xs rest))
          (omega arith)) chain1;
      letters = record {
        at = λ y i.
            let j : 1 ≤ count y (xs ++ rest) = omega (arith, count_append y xs rest) in
            rw (back.still y note j (omega arith), back.still y size j (omega arith)) (letter1 y (omega arith));
      };
    }

    pub first : get_or m h 0 ≡ x
    first = q.chain.0

    pub nonzero : x ≢ 0
    nonzero = omega (arith, px)

    stays : (y j : ℕ) → 1 ≤ count y rest → j < page_size → place y j ≢ h → word m2 y j ≡ word m y j
    stays y j i l d =
        let e = apart y i in
        back.still y j (rest_in y i) l ∙ other (set m h (word m x link)) (place x link) 0 (place y j) (omega arith)
        ∙ other m h (word m x link) (place y j) d

  on : {m : List ℕ} {x : ℕ} {xs : List ℕ} (i : ℕ) (q : Queue m ps p w (x ∷ xs) rest g) → Drained (m2 q) (emptied i (m2 q) n h) ps rest g h
      → Drained m (emptied (suc i) m n h) ps rest g h
  on {m} {x} i q t =
      rw (emptied_next i m n h x (first q) (nonzero q), left q)
      (record { lists = t.lists; view = t.view; base = t.base; still = λ y j k l d. t.still y j k l d ∙ stays q y j k l d })

  ends : {m : List ℕ} (i : ℕ) → Queue m ps p w [] rest g → Drained m (emptied i m n h) ps rest g h
  ends {m} i q = rw (emptied_end i m n h q.chain) (record { lists = q.lists; view = q.view; base = q.base; still = λ y j k l d. refl })

  pub drain : (xs : List ℕ) (i : ℕ) → length xs ≤ i → {m : List ℕ} → Queue m ps p w xs rest g → Drained m (emptied i m n h) ps rest g h
  drain [] i l q = ends i q
  drain (x ∷ xs) zero l q = absurd (omega arith)
  drain (x ∷ xs) (suc i) l q = on i q (drain xs i (omega arith) (next q))

-- ---- both queues
mail_back : {m : List ℕ} (p n g : ℕ) → 1 ≤ n → n ≤ last_name → Bag m p g → Any (mail_returned m n p) (p ∷ []) g
unfolding Delete.mail_returned
mail_back {m} p n g n1 n2 t =
    let r1 = t.q1 ++ p ∷ [] in
    let a2 : Queue m t.procs p q2 t.q2 (t.q1 ++ p ∷ []) g = record {
      lists = t.lists;
      view = t.view;
      base = rw (append_assoc t.q2 t.q1 (p ∷ [])) at t.base;
      chain = t.chain2;
      letters = t.letters2;
    } in
    let d2 = drain p q2 n (omega arith) (omega arith) n1 n2 t.procs (t.q1 ++ p ∷ []) g (count_mid p t.q1 [])
    t.q2 control_pages
    (tot_short a2.base t.q2 (λ z. omega (arith, count_append z t.q2 (t.q1 ++ p ∷ [])))) a2 in
    second d2
  where
    second : Drained m (emptied control_pages m n (place p q2)) t.procs (t.q1 ++ p ∷ []) g (place p q2)
        → Any (emptied control_pages (emptied control_pages m n (place p q2)) n (place p q1)) (p ∷ []) g
    second d =
        let m1 = emptied control_pages m n (place p q2) in
        let in1 : (y : ℕ) → 1 ≤ count y t.q1 → 1 ≤ count y (t.q1 ++ p ∷ []) = λ y i. omega (arith, count_append y t.q1 (p ∷ [])) in
        let inp : 1 ≤ count p (t.q1 ++ p ∷ []) = count_mid p t.q1 [] in
        let a1 : Queue m1 t.procs p q1 t.q1 (p ∷ []) g = record {
          lists = d.lists;
          view = d.view;
          base = d.base;
          chain = chain_move m m1 link (place p q1) (place p q1) t.q1 (d.still p q1 inp (omega arith) (omega arith)) (λ y i. d.still y link (in1 y i)
              (omega arith) (omega arith)) t.chain1;
          letters = record {
            at = λ y i. rw (d.still y note (in1 y i) (omega arith) (omega arith), d.still y size (in1 y i) (omega arith) (omega arith)) (t.letters1.at y i);
          };
        } in
        any_of (drain p q1 n (omega arith) (omega arith) n1 n2 t.procs (p ∷ []) g (omega (arith, hit_self p)) t.q1 control_pages
        (tot_short d.base t.q1 (λ z. omega (arith, count_append z t.q1 (p ∷ [])))) a1).base

-- ---- the grant of the name that is deleted
pub facts_whole : {ps : List ℕ} {L : Lists} {W : View} {n : ℕ} → length (L (grant_for n)) ≡ 0 → Facts ps L W n → Facts ps L W no_one
facts_whole {ps} {L} {W} {n} e f = record {
  sep = f.sep;
  names = f.names;
  seats = f.seats;
  own = f.own;
  sems = f.sems;
  granted = record { bare = f.granted.bare; known = λ k h d c. f.granted.known k h (λ q. c (ap (λ (y : ℕ). length (L (grant_for y))) q ∙ e)) c };
  mail = f.mail;
  runs = f.runs;
  codes = f.codes;
  clock = f.clock;
  faults = f.faults;
}

grant_back : {m : List ℕ} {hs : List ℕ} (n : ℕ) → n < page_size → Any m hs n → Any (grant_returned m n) hs no_one
unfolding Delete.grant_returned
grant_back {m} {hs} n l t = go (eqb (get_or m (grant_for n) 0) 0) refl
  where
    b : Base m t.procs t.lists t.view hs n
    b = t.base

    go : (c : Bool) → eqb (get_or m (grant_for n) 0) 0 ≡ c → Any (grant_returned m n) hs no_one
    go true e =
        let z = eqb-true (get_or m (grant_for n) 0) 0 e in
        let k = ap length (b.mem.holds.grant n l) ∙ ap (λ (x : ℕ). length (some x)) z in
        rw e (any_of (record { mem = b.mem; facts = facts_whole k b.facts; all = b.all }))
    go false e =
        let x = get_or m (grant_for n) 0 in
        let z = eqb-false (get_or m (grant_for n) 0) 0 e in
        let b1 = take_grant b n x l (b.mem.holds.grant n l ∙ some_is x z) in
        rw e (any_of (give_back_lem (record {
          mem = b1.mem;
          facts = facts_whole (ap length (upd_same t.lists (grant_for n) [])) b1.facts;
          all = b1.all;
        })).base)

-- ---- "In order: ..; then its own page."
pub delete_base : {m : List ℕ} {ps : List ℕ} {L : Lists} {W : View} (p : ℕ) → 1 ≤ count p ps → W.low running_page ≢ p → Base m ps L W [] no_one
    → Any (delete m p) [] no_one
unfolding Delete.delete Delete.mail_settled
delete_base {m} {W = W} p hp d b =
    let n = lower (W.label p) in
    let r = b.facts.names.range p hp in
    let t1 = mail_back p n n r.name (omega arith) (marked_bag n (unlisted_bag p hp d b)) in
    let t2 = grant_back n (omega arith) t1 in
    rw (b.mem.reads.words.label p (proc_page b.facts.sep p hp)) (any_of (give_back_lem t2.base).base)

-- ---- the instructions
module _ {m : List ℕ} (w : WellFormed m) (d : running m ≢ 0) where
  open busy w d use {base as b, ready}

  pub named_fine : (c n len : ℕ) → Fine (Model.named m c n len)
  named_fine c n len =
      let p = page_of m n in
      named_each (bad w d) c n len (λ z. done_fine (start_base b p (named_in b n z)) len) (λ z. done_fine (stop_base b p (named_in b n z)) len) (λ g.
      let l = leb-true _ (word m (page_of m n) state) g.stopped in
      let d : running m ≢ page_of m n = λ q. (let c = ap (λ (y : ℕ). word m y state) q in omega (arith, ready)) in
      done_fine (delete_base (page_of m n) (named_in b n g.found) d b).base len)
