-- Memory map: words read and written, "An address is 13 bits", "Protected".
use Rattle.std.specs.Prelude.{ℕ, zero, suc, ◌+◌, ◌%◌, Bool, true, false, cond, ltb, leb}
use Rattle.model.specs.Store.{Store}
use Rattle.model.specs.Map.{memory_size, place, joined, guarded_end, guarded_from, guarded_to, guarded_last}

-- x unless b: a fault or a refusal stands before what follows it, in document 01's order
abbrev pub unless : {A : Type 0} → Bool → A → A → A
unless b x y = cond b y x

-- "An address is 13 bits": a sum of two is taken modulo 8,192
abbrev pub wrapped : ℕ → ℕ → ℕ
wrapped a b = (a + b) % memory_size

-- "Protected: addresses 0-15, 128-351, 7552-8191."
unfoldable pub guarded : ℕ → Bool
guarded a = cond (ltb a guarded_end) true (cond (ltb a guarded_from) false (cond (ltb a guarded_to) true (leb guarded_last a)))

-- none of the n words from a on is protected
unfoldable pub clear : ℕ → ℕ → Bool
clear zero a = true
clear (suc n) a = elim (guarded (wrapped a n)) [ true ↦ false | false ↦ clear n a ]

module _ (S : Store) where
  -- the word at an address, and the memory with v there
  abbrev pub at : S.M → ℕ → ℕ
  at m a = S.get m a

  abbrev pub write : S.M → ℕ → ℕ → S.M
  write m a v = S.put m a v

  -- word k of page p, and the memory with v there
  abbrev pub word : S.M → ℕ → ℕ → ℕ
  word m p k = S.get m (place p k)

  abbrev pub store : S.M → ℕ → ℕ → ℕ → S.M
  store m p k v = S.put m (place p k) v

  -- "the five high bits in the first of two words, the low eight in the second": the address at a
  abbrev pub address_at : S.M → ℕ → ℕ
  address_at m a = joined (at m a) (at m (wrapped a 1))

  -- n words from a on are copied to b on
  unfoldable pub copy : ℕ → S.M → ℕ → ℕ → S.M
  copy zero m a b = m
  copy (suc n) m a b = copy n (write m b (at m a)) (wrapped a 1) (wrapped b 1)

  -- n words from a on are 0
  unfoldable pub zeroed : ℕ → S.M → ℕ → S.M
  zeroed zero m a = m
  zeroed (suc n) m a = zeroed n (write m (wrapped a n) 0) a
