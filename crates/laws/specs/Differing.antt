-- Which words differ (document 02, 7/13): the addresses told are exactly those at which two memories differ, and what is said of a name is equality of what is
-- compared. m is the first memory, k the second. Assumes nothing.
use Rattle.std.specs.Prelude.{◌≡◌, ◌≢◌, ◌↔◌, ◌⊎◌, Bool, true, false, cond, not, ◌||◌, List, [], ◌∷◌, map, ℕ, zero, suc, ◌+◌, ◌≤◌, ◌<◌, eqb}
use Rattle.std.proofs.Math.Path.{refl, ap}
use Rattle.std.proofs.Common.{sym, ◌∙◌, inl, inr, true≢false, arith}
use Rattle.std.proofs.lemmas.Bool.{false≢true}
use borrow.Author.Tests.{eqb-true, eq-eqb, ne_eqb}
use Rattle.model.specs.declared.Side.TheVariants.{First, Second}
use Rattle.model.specs.declared.State.{State}
use Rattle.model.specs.declared.Parts.{Parts}
use Rattle.model.specs.Told.{Said}
use Rattle.model.specs.Told.Said.{Nothing, OnlyIn, DiffersIn}
use Rattle.model.specs.Told.Line.{Word}
use Rattle.model.specs.Map.{place}
use Rattle.model.specs.Map.{q1, q2}
use Rattle.model.specs.Address.{unless}
use Rattle.model.specs.Lists.{count}
use Rattle.model.specs.Differ as Differ
use Rattle.model.specs.Differ.{same_words, same_messages, same_state, differs_in}
use Rattle.model.specs.Bytes.{at, page_of, priority, differing, word_lines, state_of, messages, same_mail, differences, said_of, said}
use Rattle.laws.specs.Count.{hit_self, hit_other, hit_or}

-- ---- "every differing address in rising order .., no more and no fewer"
-- each is below the one behind it
abbrev pub Below : ℕ → List ℕ → Type 0
Below x [] = Unit {0}
Below x (y ∷ ys) = x < y

abbrev pub Rising : List ℕ → Type 0
Rising [] = Unit {0}
Rising (x ∷ xs) = Below x xs × Rising xs

module _ (m k : List ℕ) where
  pub differing_none : (a : ℕ) → differing 0 m k a ≡ []
  unfolding Differ.differing
  differing_none a = refl

  pub differing_skip : (n a : ℕ) → at m a ≡ at k a → differing (suc n) m k a ≡ differing n m k (a + 1)
  unfolding Differ.differing
  differing_skip n a e = rw (eq-eqb (at m a) (at k a) e, Differ.differing)

  pub differing_here : (n a : ℕ) → at m a ≢ at k a → differing (suc n) m k a ≡ a ∷ differing n m k (a + 1)
  unfolding Differ.differing
  differing_here n a d = rw (ne_eqb (at m a) (at k a) d, Differ.differing)

  -- one of the n addresses from a on, at which the two differ
  pub record Differs (n a x : ℕ) : Type 0 where
    pub from : a ≤ x
    pub to : x < a + n
    pub words : at m x ≢ at k x

  pub differing_in : (n a x : ℕ) → 1 ≤ count x (differing n m k a) → Differs n a x
  differing_in zero a x h = let c = rw (differing_none a) at h in absurd (omega (arith, c))
  differing_in (suc n) a x h = go (hit_or (at m a) (at k a)) (differing_in n (a + 1) x)
    where
      go : (at m a ≡ at k a) ⊎ (at m a ≢ at k a) → (1 ≤ count x (differing n m k (a + 1)) → Differs n (a + 1) x) → Differs (suc n) a x
      go (inl e) ih = let r = ih (rw (differing_skip n a e) at h) in record { from = omega (arith, r.from); to = omega (arith, r.to); words = r.words }
      go (inr d) ih = there (hit_or x a)
        where
          c : 1 ≤ count x (a ∷ differing n m k (a + 1))
          c = rw (differing_here n a d) at h

          there : (x ≡ a) ⊎ (x ≢ a) → Differs (suc n) a x
          there (inl e) = record { from = omega arith; to = omega arith; words = rw e d }
          there (inr f) =
              let r = ih (omega (arith, c, hit_other x a f)) in
              record { from = omega (arith, r.from); to = omega (arith, r.to); words = r.words }

  pub differing_all : (n a x : ℕ) → Differs n a x → count x (differing n m k a) ≡ 1
  differing_all zero a x h = absurd (omega (arith, h.from, h.to))
  differing_all (suc n) a x h = go (hit_or (at m a) (at k a)) (hit_or x a) (differing_all n (a + 1) x)
    where
      next : x ≢ a → Differs n (a + 1) x
      next f = record { from = omega (arith, h.from); to = omega (arith, h.to); words = h.words }

      go : (at m a ≡ at k a) ⊎ (at m a ≢ at k a) → (x ≡ a) ⊎ (x ≢ a) → (Differs n (a + 1) x → count x (differing n m k (a + 1)) ≡ 1)
          → count x (differing (suc n) m k a) ≡ 1
      go (inl e) (inl f) ih = absurd (h.words (rw f e))
      go (inl e) (inr f) ih = rw (differing_skip n a e) (ih (next f))
      go (inr d) (inl f) ih = rw (differing_here n a d) (one (zero_count (count x (differing n m k (a + 1))) refl))
        where
          zero_count : (c : ℕ) → count x (differing n m k (a + 1)) ≡ c → c ≡ 0
          zero_count zero e = refl
          zero_count (suc c) e = let r = differing_in n (a + 1) x (omega arith) in absurd (omega (arith, r.from))

          one : count x (differing n m k (a + 1)) ≡ 0 → count x (a ∷ differing n m k (a + 1)) ≡ 1
          one e = rw f (omega (arith, hit_self a, rw f at e))
      go (inr d) (inr f) ih = rw (differing_here n a d) (omega (arith, hit_other x a f, ih (next f)))

  below_differing : (n a x : ℕ) → x < a → Below x (differing n m k a)
  below_differing zero a x h = rw (differing_none a) tt
  below_differing (suc n) a x h = go (hit_or (at m a) (at k a)) (below_differing n (a + 1) x (omega arith))
    where
      go : (at m a ≡ at k a) ⊎ (at m a ≢ at k a) → Below x (differing n m k (a + 1)) → Below x (differing (suc n) m k a)
      go (inl e) ih = rw (differing_skip n a e) ih
      go (inr d) ih = rw (differing_here n a d) h

  pub differing_rising : (n a : ℕ) → Rising (differing n m k a)
  differing_rising zero a = rw (differing_none a) tt
  differing_rising (suc n) a = go (hit_or (at m a) (at k a)) (differing_rising n (a + 1))
    where
      go : (at m a ≡ at k a) ⊎ (at m a ≢ at k a) → Rising (differing n m k (a + 1)) → Rising (differing (suc n) m k a)
      go (inl e) ih = rw (differing_skip n a e) ih
      go (inr d) ih = rw (differing_here n a d) (below_differing n (a + 1) a (omega arith), ih)

-- a rising list is known by what stands in it: so the list above, as a whole, is the only one
rising_above : (x : ℕ) (xs : List ℕ) → Rising (x ∷ xs) → (z : ℕ) → 1 ≤ count z xs → x < z
rising_above x [] r z h = absurd (omega arith)
rising_above x (y ∷ ys) r z h = go (hit_or z y) (rising_above y ys r.1 z)
  where
    go : (z ≡ y) ⊎ (z ≢ y) → (1 ≤ count z ys → y < z) → x < z
    go (inl e) ih = omega (arith, r.0)
    go (inr f) ih = omega (arith, r.0, ih (omega (arith, hit_other z y f)))

module _ (x : ℕ) (xs : List ℕ) (y : ℕ) (ys : List ℕ) (r : Rising (x ∷ xs)) (s : Rising (y ∷ ys)) where
  -- the first of the one is not below the first of the other, where all that stands in the one stands in the other
  first_least : ((z : ℕ) → 1 ≤ count z (x ∷ xs) → 1 ≤ count z (y ∷ ys)) → y ≤ x
  first_least f = go (hit_or x y)
    where
      go : (x ≡ y) ⊎ (x ≢ y) → y ≤ x
      go (inl e) = omega arith
      go (inr d) = let l = rising_above y ys s x (omega (arith, f x (omega (arith, hit_self x)), hit_other x y d)) in omega arith

  rest_in : x ≡ y → ((z : ℕ) → 1 ≤ count z (x ∷ xs) → 1 ≤ count z (y ∷ ys)) → (z : ℕ) → 1 ≤ count z xs → 1 ≤ count z ys
  rest_in e f z h = let l = rising_above x xs r z h in omega (arith, f z (omega arith), hit_other z y (omega (arith, l, e)))

pub rising_one : (xs ys : List ℕ) → Rising xs → Rising ys → ((z : ℕ) → (1 ≤ count z xs) ↔ (1 ≤ count z ys)) → xs ≡ ys
rising_one [] [] r s f = refl
rising_one [] (y ∷ ys) r s f = let c = (f y).1 (omega (arith, hit_self y)) in absurd (omega (arith, c))
rising_one (x ∷ xs) [] r s f = let c = (f x).0 (omega (arith, hit_self x)) in absurd (omega (arith, c))
rising_one (x ∷ xs) (y ∷ ys) r s f =
    let e : x ≡ y = omega (arith, first_least x xs y ys r s (λ z. (f z).0), first_least y ys x xs s r (λ z. (f z).1)) in
    let t : xs ≡ ys = rising_one xs ys r.1 s.1 (λ z. (rest_in x xs y ys r s e (λ w. (f w).0) z, rest_in y ys x xs s r (sym e) (λ w. (f w).1) z)) in
    rw (e, t)

-- of the first n addresses
module _ (m k : List ℕ) (n : ℕ) where
  pub differing_exactly : (x : ℕ) → (1 ≤ count x (differing n m k 0)) ↔ ((x < n) × (at m x ≢ at k x))
  differing_exactly x = (
    λ h. let d = differing_in m k n 0 x h in (omega (arith, d.to), d.words),
    λ h. omega (arith, differing_all m k n 0 x (record { from = omega arith; to = omega (arith, h.0); words = h.1 })),
  )

  pub differing_once : (x : ℕ) → count x (differing n m k 0) ≤ 1
  differing_once x = go (count x (differing n m k 0)) refl
    where
      go : (c : ℕ) → count x (differing n m k 0) ≡ c → c ≤ 1
      go zero e = omega arith
      go (suc c) e = omega (arith, differing_all m k n 0 x (differing_in m k n 0 x (omega arith)))

  pub differing_is : (xs : List ℕ) → Rising xs → ((x : ℕ) → (1 ≤ count x xs) ↔ ((x < n) × (at m x ≢ at k x))) → differing n m k 0 ≡ xs
  differing_is xs r f =
      rising_one (differing n m k 0) xs (differing_rising m k n 0) r (λ z. (λ h. (f z).1 ((differing_exactly z).0 h), λ h. (differing_exactly z).1 ((f z).0 h)))

-- "address, first value and second value"
pub word_lines_are : (m k : List ℕ) (n a : ℕ) → word_lines n m k a ≡ map (λ x. Word x (at m x) (at k x)) (differing n m k a)
unfolding Differ.word_lines
word_lines_are m k n a = refl

-- ---- two lists are the same exactly if the test says so
-- what a test s of lists is, where t is that of their parts
record Compares {A : Type 0} (t : A → A → Bool) (s : List A → List A → Bool) : Type 0 where
  none : s [] [] ≡ true
  longer : (y : A) (ys : List A) → s [] (y ∷ ys) ≡ false
  shorter : (x : A) (xs : List A) → s (x ∷ xs) [] ≡ false
  on : (x y : A) (xs ys : List A) → t x y ≡ true → s (x ∷ xs) (y ∷ ys) ≡ s xs ys
  stop : (x y : A) (xs ys : List A) → t x y ≡ false → s (x ∷ xs) (y ∷ ys) ≡ false
  parts : (x y : A) → (t x y ≡ true) ↔ (x ≡ y)

module _ {A : Type 0} (t : A → A → Bool) (s : List A → List A → Bool) (c : Compares t s) where
  list_same : (xs ys : List A) → s xs ys ≡ true → xs ≡ ys
  list_same [] [] e = refl
  list_same [] (y ∷ ys) e = absurd (false≢true (sym (c.longer y ys) ∙ e))
  list_same (x ∷ xs) [] e = absurd (false≢true (sym (c.shorter x xs) ∙ e))
  list_same (x ∷ xs) (y ∷ ys) e = go (t x y) refl (list_same xs ys)
    where
      go : (b : Bool) → t x y ≡ b → (s xs ys ≡ true → xs ≡ ys) → x ∷ xs ≡ y ∷ ys
      go true f ih = rw ((c.parts x y).0 f, ih (sym (c.on x y xs ys f) ∙ e))
      go false f ih = absurd (false≢true (sym (c.stop x y xs ys f) ∙ e))

  list_itself : (xs : List A) → s xs xs ≡ true
  list_itself [] = c.none
  list_itself (x ∷ xs) = c.on x x xs xs ((c.parts x x).1 refl) ∙ list_itself xs

  list_is : (xs ys : List A) → (s xs ys ≡ true) ↔ (xs ≡ ys)
  list_is xs ys = (list_same xs ys, λ e. rw e (list_itself ys))

-- a test that says so exactly if something holds: not so, exactly if it does not; and of its contrary
pub test_not : {P : Type 0} (b : Bool) → (b ≡ true) ↔ P → (b ≡ false) ↔ (P → ⊥)
test_not true f = (λ e. absurd (true≢false e), λ n. absurd (n (f.0 refl)))
test_not false f = ((λ e p. false≢true (f.1 p)), λ n. refl)

test_contrary : {P : Type 0} (b : Bool) → (b ≡ true) ↔ P → (not b ≡ false) ↔ P
test_contrary true f = (λ e. f.0 refl, λ p. refl)
test_contrary false f = (λ e. absurd (true≢false e), λ p. absurd (false≢true (f.1 p)))

-- two tests that say the same
pub test_same : (b c : Bool) → (b ≡ true → c ≡ true) → (c ≡ true → b ≡ true) → b ≡ c
test_same true c f g = sym (f refl)
test_same false true f g = g refl
test_same false false f g = refl

pub numbers_are : (x y : ℕ) → (eqb x y ≡ true) ↔ (x ≡ y)
numbers_are x y = (eqb-true x y, eq-eqb x y)

words_compare : Compares eqb same_words
unfolding Differ.same_words
words_compare = record {
  none = refl;
  longer = λ y ys. refl;
  shorter = λ x xs. refl;
  on = λ x y xs ys e. rw (e, Differ.same_words);
  stop = λ x y xs ys e. rw (e, Differ.same_words);
  parts = numbers_are;
}

pub words_are : (xs ys : List ℕ) → (same_words xs ys ≡ true) ↔ (xs ≡ ys)
words_are = list_is eqb same_words words_compare

pub words_are_not : (xs ys : List ℕ) → (same_words xs ys ≡ false) ↔ (xs ≢ ys)
words_are_not xs ys = test_not (same_words xs ys) (words_are xs ys)

messages_compare : Compares same_words same_messages
unfolding Differ.same_messages
messages_compare = record {
  none = refl;
  longer = λ y ys. refl;
  shorter = λ x xs. refl;
  on = λ x y xs ys e. rw (e, Differ.same_messages);
  stop = λ x y xs ys e. rw (e, Differ.same_messages);
  parts = words_are;
}

pub messages_are : (xs ys : List (List ℕ)) → (same_messages xs ys ≡ true) ↔ (xs ≡ ys)
messages_are = list_is same_words same_messages messages_compare

pub messages_are_not : (xs ys : List (List ℕ)) → (same_messages xs ys ≡ false) ↔ (xs ≢ ys)
messages_are_not xs ys = test_not (same_messages xs ys) (messages_are xs ys)

-- ---- two states
also : (b c : Bool) → unless b false c ≡ true → (b ≡ true) × (c ≡ true)
also true c e = (refl, e)
also false c e = absurd (false≢true e)

states_same : (s t : State) → same_state s t ≡ true → s ≡ t
unfolding Differ.same_state Differ.same_wait
states_same s t e =
    let e1 = also (eqb s.stopped t.stopped) _ e in
    let e2 = also (eqb s.waiting t.waiting) _ e1.1 in
    let e3 = also (eqb s.runs t.runs) _ e2.1 in
    let e4 = also (eqb s.queue t.queue) (eqb s.reason t.reason) e3.1 in
    λ i. record {
      stopped = eqb-true s.stopped t.stopped e1.0 i;
      waiting = eqb-true s.waiting t.waiting e2.0 i;
      runs = eqb-true s.runs t.runs e3.0 i;
      queue = eqb-true s.queue t.queue e4.0 i;
      reason = eqb-true s.reason t.reason e4.1 i;
    }

state_itself : (s : State) → same_state s s ≡ true
unfolding Differ.same_state Differ.same_wait
state_itself s =
    rw (
      eq-eqb s.stopped s.stopped refl,
      eq-eqb s.waiting s.waiting refl,
      eq-eqb s.runs s.runs refl,
      eq-eqb s.queue s.queue refl,
      eq-eqb s.reason s.reason refl,
    )

pub states_are : (s t : State) → (same_state s t ≡ true) ↔ (s ≡ t)
states_are s t = (states_same s t, λ e. rw e (state_itself t))

pub states_are_not : (s t : State) → (same_state s t ≡ false) ↔ (s ≢ t)
states_are_not s t = test_not (same_state s t) (states_are s t)

-- ---- "for names in both whether state, priority or any queue's content differs": page p of the first, page q of the second
-- one of the four differs
unfoldable pub any : Parts → Bool
any d = d.state || d.priority || d.q1 || d.q2

neither : (b c : Bool) → b || c ≡ false → (b ≡ false) × (c ≡ false)
neither true c e = absurd (true≢false e)
neither false c e = (refl, e)

module _ (m : List ℕ) (p : ℕ) (k : List ℕ) (q : ℕ) where
  pub mails_are : (h g : ℕ) → (same_mail m h k g ≡ true) ↔ (messages m h ≡ messages k g)
  unfolding Differ.same_mail
  mails_are h g = messages_are (messages m h) (messages k g)

  pub state_is : ((differences m p k q).state ≡ false) ↔ (state_of m p ≡ state_of k q)
  unfolding Differ.differences
  state_is = test_contrary (same_state (state_of m p) (state_of k q)) (states_are (state_of m p) (state_of k q))

  pub priority_is : ((differences m p k q).priority ≡ false) ↔ (priority m p ≡ priority k q)
  unfolding Differ.differences
  priority_is = test_contrary (eqb (priority m p) (priority k q)) (numbers_are (priority m p) (priority k q))

  pub q1_is : ((differences m p k q).q1 ≡ false) ↔ (messages m (place p q1) ≡ messages k (place q q1))
  unfolding Differ.differences
  q1_is = test_contrary (same_mail m (place p q1) k (place q q1)) (mails_are (place p q1) (place q q1))

  pub q2_is : ((differences m p k q).q2 ≡ false) ↔ (messages m (place p q2) ≡ messages k (place q q2))
  unfolding Differ.differences
  q2_is = test_contrary (same_mail m (place p q2) k (place q q2)) (mails_are (place p q2) (place q q2))

  -- all four are equal
  pub record Alike : Type 0 where
    pub state : state_of m p ≡ state_of k q
    pub priority : priority m p ≡ priority k q
    pub q1 : messages m (place p q1) ≡ messages k (place q q1)
    pub q2 : messages m (place p q2) ≡ messages k (place q q2)

  pub alike_is : (any (differences m p k q) ≡ false) ↔ Alike
  unfolding any
  alike_is = (forth, λ a. rw (state_is.1 a.state, priority_is.1 a.priority, q1_is.1 a.q1, q2_is.1 a.q2))
    where
      d : Parts
      d = differences m p k q

      forth : (d.state || d.priority || d.q1 || d.q2) ≡ false → Alike
      forth e =
          let e1 = neither (d.state || d.priority || d.q1) d.q2 e in
          let e2 = neither (d.state || d.priority) d.q1 e1.0 in
          let e3 = neither d.state d.priority e2.0 in
          record { state = state_is.0 e3.0; priority = priority_is.0 e3.1; q1 = q1_is.0 e2.1; q2 = q2_is.0 e1.1 }

-- "none where nothing differs"
differs_is : (d : Parts) → differs_in d ≡ cond (any d) (DiffersIn d) Nothing
unfolding any Differ.differs_in
differs_is d = go d.state d.priority d.q1 d.q2
  where
    go : (s p x y : Bool) → cond s (DiffersIn d) (cond p (DiffersIn d) (cond x (DiffersIn d) (cond y (DiffersIn d) Nothing)))
        ≡ cond (s || p || x || y) (DiffersIn d) Nothing
    go true p x y = refl
    go false true x y = refl
    go false false true y = refl
    go false false false y = refl

-- ---- what is said of a name whose pages are p and q, or 0
module _ (m : List ℕ) (p : ℕ) (k : List ℕ) (q : ℕ) where
  -- the four ways
  pub said_absent : p ≡ 0 → q ≡ 0 → said_of m p k q ≡ Nothing
  unfolding Differ.said_of
  said_absent e f = rw (eq-eqb p 0 e, eq-eqb q 0 f)

  pub said_second : p ≡ 0 → q ≢ 0 → said_of m p k q ≡ OnlyIn Second
  unfolding Differ.said_of
  said_second e f = rw (eq-eqb p 0 e, ne_eqb q 0 f)

  pub said_first : p ≢ 0 → q ≡ 0 → said_of m p k q ≡ OnlyIn First
  unfolding Differ.said_of
  said_first e f = rw (ne_eqb p 0 e, eq-eqb q 0 f)

  pub said_both : p ≢ 0 → q ≢ 0 → said_of m p k q ≡ cond (any (differences m p k q)) (DiffersIn (differences m p k q)) Nothing
  unfolding Differ.said_of
  said_both e f = rw (ne_eqb p 0 e, ne_eqb q 0 f) (differs_is (differences m p k q))

  said_alike : p ≢ 0 → q ≢ 0 → Alike m p k q → said_of m p k q ≡ Nothing
  said_alike e f a = said_both e f ∙ rw ((alike_is m p k q).1 a)

  said_apart : p ≢ 0 → q ≢ 0 → any (differences m p k q) ≡ true → said_of m p k q ≡ DiffersIn (differences m p k q)
  said_apart e f a = said_both e f ∙ rw a

  -- and there are no others
  data Way : Said → Type 0 where
    absent : p ≡ 0 → q ≡ 0 → Way Nothing
    alike : p ≢ 0 → q ≢ 0 → Alike m p k q → Way Nothing
    in_first : p ≢ 0 → q ≡ 0 → Way (OnlyIn First)
    in_second : p ≡ 0 → q ≢ 0 → Way (OnlyIn Second)
    apart : p ≢ 0 → q ≢ 0 → any (differences m p k q) ≡ true → Way (DiffersIn (differences m p k q))

  way : Way (said_of m p k q)
  way = go (hit_or p 0) (hit_or q 0) (any (differences m p k q)) refl
    where
      go : (p ≡ 0) ⊎ (p ≢ 0) → (q ≡ 0) ⊎ (q ≢ 0) → (b : Bool) → any (differences m p k q) ≡ b → Way (said_of m p k q)
      go (inl e) (inl f) b h = rw (said_absent e f) (absent e f)
      go (inl e) (inr f) b h = rw (said_second e f) (in_second e f)
      go (inr e) (inl f) b h = rw (said_first e f) (in_first e f)
      go (inr e) (inr f) true h = rw (said_apart e f h) (apart e f h)
      go (inr e) (inr f) false h = let a = (alike_is m p k q).0 h in rw (said_alike e f a) (alike e f a)

  -- exactly if
  ways_nothing : (o : Said) → Way o → o ≡ Nothing → ((p ≡ 0) × (q ≡ 0)) ⊎ ((p ≢ 0) × (q ≢ 0) × Alike m p k q)
  ways_nothing Nothing (absent e f) h = inl (e, f)
  ways_nothing Nothing (alike e f a) h = inr (e, f, a)
  ways_nothing (OnlyIn s) w h = let z : ◌≡◌ {A = ℕ} 0 1 = cc in absurd (omega arith)
  ways_nothing (DiffersIn d) w h = let z : ◌≡◌ {A = ℕ} 0 1 = cc in absurd (omega arith)

  ways_first : (o : Said) → Way o → o ≡ OnlyIn First → (p ≢ 0) × (q ≡ 0)
  ways_first o (absent e f) h = let z : ◌≡◌ {A = ℕ} 0 1 = cc in absurd (omega arith)
  ways_first o (alike e f a) h = let z : ◌≡◌ {A = ℕ} 0 1 = cc in absurd (omega arith)
  ways_first o (in_first e f) h = (e, f)
  ways_first o (in_second e f) h = let z : ◌≡◌ {A = ℕ} 0 1 = cc in absurd (omega arith)
  ways_first o (apart e f a) h = let z : ◌≡◌ {A = ℕ} 0 1 = cc in absurd (omega arith)

  ways_second : (o : Said) → Way o → o ≡ OnlyIn Second → (p ≡ 0) × (q ≢ 0)
  ways_second o (absent e f) h = let z : ◌≡◌ {A = ℕ} 0 1 = cc in absurd (omega arith)
  ways_second o (alike e f a) h = let z : ◌≡◌ {A = ℕ} 0 1 = cc in absurd (omega arith)
  ways_second o (in_first e f) h = let z : ◌≡◌ {A = ℕ} 0 1 = cc in absurd (omega arith)
  ways_second o (in_second e f) h = (e, f)
  ways_second o (apart e f a) h = let z : ◌≡◌ {A = ℕ} 0 1 = cc in absurd (omega arith)

  ways_apart : (o : Said) → Way o → (d : Parts) → o ≡ DiffersIn d → (p ≢ 0) × (q ≢ 0) × (d ≡ differences m p k q) × (any d ≡ true)
  ways_apart o (absent e f) d h = let z : ◌≡◌ {A = ℕ} 0 1 = cc in absurd (omega arith)
  ways_apart o (alike e f a) d h = let z : ◌≡◌ {A = ℕ} 0 1 = cc in absurd (omega arith)
  ways_apart o (in_first e f) d h = let z : ◌≡◌ {A = ℕ} 0 1 = cc in absurd (omega arith)
  ways_apart o (in_second e f) d h = let z : ◌≡◌ {A = ℕ} 0 1 = cc in absurd (omega arith)
  ways_apart o (apart e f a) d h = let g : d ≡ differences m p k q = cc in (e, f, g, rw g a)

-- ---- what is said of the name n
module _ (m k : List ℕ) (n : ℕ) where
  pub said_nothing : (said m k n ≡ Nothing)
      ↔ (((page_of m n ≡ 0) × (page_of k n ≡ 0)) ⊎ ((page_of m n ≢ 0) × (page_of k n ≢ 0) × Alike m (page_of m n) k (page_of k n)))
  unfolding Differ.said
  said_nothing = (ways_nothing m (page_of m n) k (page_of k n) (said m k n) (way m (page_of m n) k (page_of k n)), back)
    where
      back : ((page_of m n ≡ 0) × (page_of k n ≡ 0)) ⊎ ((page_of m n ≢ 0) × (page_of k n ≢ 0) × Alike m (page_of m n) k (page_of k n)) → said m k n ≡ Nothing
      back (inl t) = said_absent m (page_of m n) k (page_of k n) t.0 t.1
      back (inr t) = said_alike m (page_of m n) k (page_of k n) t.0 t.1 t.2

  pub said_only_first : (said m k n ≡ OnlyIn First) ↔ ((page_of m n ≢ 0) × (page_of k n ≡ 0))
  unfolding Differ.said
  said_only_first = (
    ways_first m (page_of m n) k (page_of k n) (said m k n) (way m (page_of m n) k (page_of k n)),
    λ t. said_first m (page_of m n) k (page_of k n) t.0 t.1,
  )

  pub said_only_second : (said m k n ≡ OnlyIn Second) ↔ ((page_of m n ≡ 0) × (page_of k n ≢ 0))
  unfolding Differ.said
  said_only_second = (
    ways_second m (page_of m n) k (page_of k n) (said m k n) (way m (page_of m n) k (page_of k n)),
    λ t. said_second m (page_of m n) k (page_of k n) t.0 t.1,
  )

  pub said_differs : (d : Parts) → (said m k n ≡ DiffersIn d)
      ↔ ((page_of m n ≢ 0) × (page_of k n ≢ 0) × (d ≡ differences m (page_of m n) k (page_of k n)) × (any d ≡ true))
  unfolding Differ.said
  said_differs d = (
    ways_apart m (page_of m n) k (page_of k n) (said m k n) (way m (page_of m n) k (page_of k n)) d,
    λ t. said_apart m (page_of m n) k (page_of k n) t.0 t.1 (rw t.2 at t.3) ∙ ap (λ (e : Parts). DiffersIn e) (sym t.2),
  )
