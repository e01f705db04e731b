-- Memory map: "Processor page". What the kernel covers: "reading and setting the running processor's registers".
use Rattle.std.specs.Prelude.{ℕ, ◌+◌, Bool, false, cond, eqb, leb, ltb}
use Rattle.model.specs.declared.Registers.{Registers}
use Rattle.model.specs.Store.{Store}
use Rattle.model.specs.Map.{last_address, upper, lower, high, low, joined, p_in, z_in, ci_in, three_flags, flags_kept, is_stopped, is_ready, stop_in}
use Rattle.model.specs.Map.{wait_in, stop_set, stop_cleared, w_set, stop_put, a_word, one_bit, four_bits, running_page, label, word_a, word_s, high_lr}
use Rattle.model.specs.Map.{low_lr, state}
use Rattle.model.specs.Address.{word, store, at, wrapped}
use Rattle.model.specs.Queue.{first, processors}

module _ (S : Store) where
  -- "7 priority*16+name"
  abbrev pub name : S.M → ℕ → ℕ
  name m p = lower (word S m p label)

  abbrev pub priority : S.M → ℕ → ℕ
  priority m p = upper (word S m p label)

  -- the page of the processor named n; 0: there is none
  unfoldable pub is_named : S.M → ℕ → ℕ → Bool
  is_named m n p = eqb (name m p) n

  abbrev pub page_of : S.M → ℕ → ℕ
  page_of m n = first (is_named m n) (processors S m)

  -- "24 running page (0: idle)"
  abbrev pub running : S.M → ℕ
  running m = at S m running_page

  -- "12 stopped bit, waiting bit"; "ready (neither bit set)"
  abbrev pub stopped : S.M → ℕ → Bool
  stopped m p = is_stopped (word S m p state)

  abbrev pub waiting : S.M → ℕ → ℕ
  waiting m p = wait_in (word S m p state)

  abbrev pub ready : S.M → ℕ → Bool
  ready m p = is_ready (word S m p state)

  -- the stopped bit of page p is set, is cleared
  unfoldable pub stop : S.M → ℕ → S.M
  stop m p = store S m p state (stop_set (word S m p state))

  unfoldable pub start : S.M → ℕ → S.M
  start m p = store S m p state (stop_cleared (word S m p state))

  -- "10 P Z CI then LR's high five bits, 11 LR's low bits"
  abbrev pub lr_of : S.M → ℕ → ℕ
  lr_of m p = joined (word S m p high_lr) (word S m p low_lr)

  unfoldable pub set_lr : S.M → ℕ → ℕ → S.M
  set_lr m p a = store S (store S m p high_lr (flags_kept (word S m p high_lr) (high a))) p low_lr (low a)

  -- "Advance means that LR grows by the length."
  abbrev pub lr : S.M → ℕ
  lr m = lr_of m (running m)

  unfoldable pub advance : S.M → ℕ → S.M
  advance m len = set_lr m (running m) (wrapped (lr m) len)

  -- "the running processor's registers (A, S, P, Z, CI, LR, W)", and its stopped bit
  unfoldable pub registers_of : S.M → ℕ → Registers
  registers_of m p = record {
    a = word S m p word_a;
    s = word S m p word_s;
    p = p_in (word S m p high_lr);
    z = z_in (word S m p high_lr);
    ci = ci_in (word S m p high_lr);
    lr = lr_of m p;
    w = lower (word S m p state);
    stopped = stop_in (word S m p state);
  }

  -- set: words 8-11 and the low four bits of word 12; a value goes in modulo its field
  unfoldable pub set_flags_lr : S.M → ℕ → Registers → S.M
  set_flags_lr m p r = store S (store S m p high_lr (three_flags r.p r.z r.ci + high r.lr)) p low_lr (low r.lr)

  unfoldable pub set_registers_of : S.M → ℕ → Registers → S.M
  set_registers_of m p r = set_w (set_flags_lr (store S (store S m p word_a (low r.a)) p word_s (low r.s)) p r)
    where
      set_w : S.M → S.M
      set_w m = store S m p state (w_set (word S m p state) r.w)

  -- the record handed back to its page whole, the stopped bit too
  unfoldable pub hand_back : S.M → ℕ → Registers → S.M
  hand_back m p r = set_stop (set_registers_of m p r)
    where
      set_stop : S.M → S.M
      set_stop m = store S m p state (stop_put (word S m p state) r.stopped)

-- "26 .. register value out of range"
unfoldable pub in_range : Registers → Bool
in_range r =
    cond (ltb a_word r.a) false
    (cond (ltb a_word r.s) false
    (cond (ltb one_bit r.p) false
    (cond (ltb one_bit r.z) false
    (cond (ltb one_bit r.ci) false
    (cond (ltb last_address r.lr) false
    (leb r.w four_bits))))))

-- the methods of the record: advance LR, set accumulator, jump, set P, set and clear the stopped bit
abbrev pub advanced : Registers → ℕ → Registers
advanced r n = record { a = r.a; s = r.s; p = r.p; z = r.z; ci = r.ci; lr = wrapped r.lr n; w = r.w; stopped = r.stopped }

abbrev pub accumulated : Registers → ℕ → Registers
accumulated r v = record { a = v; s = r.s; p = r.p; z = r.z; ci = r.ci; lr = r.lr; w = r.w; stopped = r.stopped }

abbrev pub jumped : Registers → ℕ → Registers
jumped r a = record { a = r.a; s = r.s; p = r.p; z = r.z; ci = r.ci; lr = a; w = r.w; stopped = r.stopped }

abbrev pub carried : Registers → ℕ → Registers
carried r v = record { a = r.a; s = r.s; p = v; z = r.z; ci = r.ci; lr = r.lr; w = r.w; stopped = r.stopped }

abbrev pub stopped_once : Registers → Registers
stopped_once r = record { a = r.a; s = r.s; p = r.p; z = r.z; ci = r.ci; lr = r.lr; w = r.w; stopped = one_bit }

abbrev pub started_once : Registers → Registers
started_once r = record { a = r.a; s = r.s; p = r.p; z = r.z; ci = r.ci; lr = r.lr; w = r.w; stopped = 0 }

-- a record that is zero but for LR and W
abbrev pub starting_at : ℕ → ℕ → Registers
starting_at a w = record { a = 0; s = 0; p = 0; z = 0; ci = 0; lr = a; w = w; stopped = 0 }
