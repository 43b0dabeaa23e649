-- The predecessor cubes of an entry for a step (theory, section 5). Every filling of one steps to above the entry (T8), and every
-- configuration that steps to above the entry is above a filling of one (T7). There is no bound on waiting values or messages.
use Rattle.std.specs.Prelude.{ℕ, suc, ◌-◌, Bool, true, false, cond, ◌&&◌, ◌||◌, not, List, [], ◌∷◌, ◌++◌, length, get_or, set, eqb, ltb, leb}
use Rattle.std.proofs.Math.Option.{Option, none, some}
use Rattle.machine_pws.specs.declared.Operation.{Operation}
use Rattle.machine_pws.specs.declared.Operation.TheVariants.{Nop, Read, Write, Mfence, Sfence, Arw}
use Rattle.machine_pws.specs.declared.Step.{Step}
use Rattle.machine_pws.specs.declared.Step.TheVariants.{Take, Serialise, Update}
use Rattle.machine_pws.specs.Program.{Shape, Program, transition}
use Rattle.machine_pws.specs.Machine.{Memory, Configuration, put, put_queue, labelled, last_write, newest_waiting, is_empty, all_below, point, at_newest, sees, may_operate}
use Rattle.machine_pws.specs.Insertion.{insert_into}
use Rattle.machine_pws.specs.Entries.{FF}
use Rattle.list_theory.specs.Lists.{for_below}
use Rattle.list_theory.specs.Values.{alike}
use Rattle.list_theory.specs.Cubes.{memory_of, message_of, any_message, value_put, without_last, with_last, topmost, older, alike_newest, meet_newest}

-- What a cube has beside the step undone: nothing, or one value or message of which the entry shows no trace.
pub data Kind : Type 0 where
  -- nothing
  undone : Kind
  -- a value that waited before the one written
  waited : Kind
  -- a message of this number, before a serialise
  inside : ℕ → Kind
  -- the newest message, for this variable, before an arw or a serialise
  on_top : ℕ → Kind
  -- the message of this label that the process pointed at, before an update
  pointed : ℕ → ℕ → Kind

-- ---- memory before a serialise, an arw and an update

-- the newest values with x in v: what the message before had
abbrev pub before : Memory → ℕ → ℕ → List ℕ
before m v x = set (topmost m.channel).snapshot v x

abbrev pub without_newest : Memory → Memory
without_newest m = memory_of (older m.channel) m.pointer

-- the newest message is taken away, and the one before is met with xs
abbrev pub joined : Memory → List ℕ → Memory
joined m xs = memory_of (meet_newest (older m.channel) xs) m.pointer

-- the newest message has the label (p, v) and the values xs instead
abbrev pub replaced : Memory → ℕ → ℕ → List ℕ → Memory
replaced m p v xs = memory_of (message_of p v xs ∷ older m.channel) m.pointer

abbrev pub serialise_memory : Shape → Memory → ℕ → ℕ → Kind → Memory
serialise_memory S m p v undone = joined m (before m v FF)
serialise_memory S m p v waited = m
serialise_memory S m p v (inside k) = insert_into (joined m (before m v FF)) k (any_message S p v)
serialise_memory S m p v (on_top u) = replaced m p u (before m v FF)
serialise_memory S m p v (pointed r u) = m

abbrev pub arw_memory : Memory → ℕ → ℕ → ℕ → Kind → Memory
arw_memory m p v old undone = point (joined m (before m v old)) p (length (older m.channel))
arw_memory m p v old waited = m
arw_memory m p v old (inside k) = m
arw_memory m p v old (on_top u) = replaced m p u (before m v old)
arw_memory m p v old (pointed r u) = m

abbrev pub update_memory : Shape → Memory → ℕ → Kind → Memory
update_memory S m p undone = point m p (m.pointer p - 1)
update_memory S m p waited = m
update_memory S m p (inside k) = m
update_memory S m p (on_top u) = m
update_memory S m p (pointed r u) = point (insert_into m (m.pointer p) (any_message S r u)) p (m.pointer p)

-- ---- which kinds there are of these

-- the newest message carries the label (p, v), is not the only one, and no process points at it
abbrev pub serialised : Shape → Memory → ℕ → ℕ → Bool
serialised S m p v = (ltb 1 (length m.channel) && labelled (topmost m.channel) p v) && all_below S.processes (λ q. not (at_newest m q))

-- a message inside stands past the LastWrite of p and v, and so becomes it: past p's pointer, and past all messages of that label
abbrev pub serialise_kind : Memory → ℕ → ℕ → Kind → Bool
serialise_kind m p v undone = alike_newest (older m.channel) (before m v FF)
serialise_kind m p v waited = false
serialise_kind m p v (inside k) = alike_newest (older m.channel) (before m v FF) && (ltb (last_write (without_newest m) p v) k && leb k (length (older m.channel)))
serialise_kind m p v (on_top u) = eqb u v
serialise_kind m p v (pointed r u) = false

-- the newest message carries the label (p, v) and may have x in v, and p alone points at it
abbrev pub swapped : Shape → Memory → ℕ → ℕ → ℕ → Bool
swapped S m p v x =
    (labelled (topmost m.channel) p v && alike (get_or (topmost m.channel).snapshot v 0) x)
    && (at_newest m p && all_below S.processes (λ q. eqb q p || not (at_newest m q)))

abbrev pub arw_kind : Shape → Memory → ℕ → ℕ → Kind → Bool
arw_kind S m v old undone = alike_newest (older m.channel) (before m v old)
arw_kind S m v old waited = false
arw_kind S m v old (inside k) = false
arw_kind S m v old (on_top u) = ltb u S.variables
arw_kind S m v old (pointed r u) = false

-- The message that p pointed at is nobody's LastWrite afterwards: that of r and u stands at p's pointer or past it (r is p, or r's pointer
-- does, or a message of that label).
abbrev pub update_kind : Shape → Memory → ℕ → Kind → Bool
update_kind S m p undone = ltb 1 (m.pointer p)
update_kind S m p waited = false
update_kind S m p (inside k) = false
update_kind S m p (on_top u) = false
update_kind S m p (pointed r u) = (ltb r S.processes && ltb u S.variables) && leb (m.pointer p) (last_write m r u)

-- ---- operations

abbrev pub is_undone : Kind → Bool
is_undone undone = true
is_undone waited = false
is_undone (inside k) = false
is_undone (on_top u) = false
is_undone (pointed r u) = false

abbrev pub write_kind : Kind → Bool
write_kind undone = true
write_kind waited = true
write_kind (inside k) = false
write_kind (on_top u) = false
write_kind (pointed r u) = false

abbrev pub ends_alike : Option ℕ → ℕ → Bool
ends_alike none x = false
ends_alike (some y) x = alike y x

abbrev pub has_operation : Shape → Configuration → ℕ → Operation → Kind → Bool
has_operation S e p Nop k = is_undone k
has_operation S e p (Read v x) k = is_undone k && alike (sees e p v) x
has_operation S e p (Write v x) k = write_kind k && ends_alike (newest_waiting (e.queue p v)) x
has_operation S e p Mfence k = is_undone k && may_operate S e p Mfence
has_operation S e p Sfence k = is_undone k && may_operate S e p Sfence
has_operation S e p (Arw v old new) k = (is_empty (e.queue p v) && swapped S e.memory p v new) && arw_kind S e.memory v old k

-- the queue without the value written; a value that waited before it is free
abbrev pub unwritten : List ℕ → Kind → List ℕ
unwritten xs undone = without_last xs
unwritten xs waited = with_last xs FF
unwritten xs (inside k) = xs
unwritten xs (on_top u) = xs
unwritten xs (pointed r u) = xs

abbrev pub queue_before : Configuration → ℕ → Operation → Kind → ℕ → ℕ → List ℕ
queue_before e p Nop k = e.queue
queue_before e p (Read v x) k = put_queue e.queue p v (with_last (e.queue p v) x)
queue_before e p (Write v x) k = put_queue e.queue p v (unwritten (e.queue p v) k)
queue_before e p Mfence k = e.queue
queue_before e p Sfence k = e.queue
queue_before e p (Arw v old new) k = e.queue

-- a value read in the channel stands at LastWrite
abbrev pub read_memory : Configuration → ℕ → ℕ → ℕ → Memory
read_memory e p v x =
    record {
      channel = cond (is_empty (e.queue p v)) (value_put e.memory.channel (last_write e.memory p v) v x) e.memory.channel;
      pointer = e.memory.pointer;
    }

abbrev pub memory_before : Configuration → ℕ → Operation → Kind → Memory
memory_before e p Nop k = e.memory
memory_before e p (Read v x) k = read_memory e p v x
memory_before e p (Write v x) k = e.memory
memory_before e p Mfence k = e.memory
memory_before e p Sfence k = e.memory
memory_before e p (Arw v old new) k = arw_memory e.memory p v old k

-- ---- steps

-- is there a cube of this kind?
abbrev pub has : Program → Configuration → Step → Kind → Bool
has P e (Take n) k =
    (ltb n (length P.transitions) && eqb (e.state (transition P n).process) (transition P n).to)
    && has_operation P.shape e (transition P n).process (transition P n).operation k
has P e (Serialise p v) k =
    (ltb p P.shape.processes && ltb v P.shape.variables) && (serialised P.shape e.memory p v && serialise_kind e.memory p v k)
has P e (Update p) k = ltb p P.shape.processes && update_kind P.shape e.memory p k

abbrev pub cube : Program → Configuration → Step → Kind → Configuration
cube P e (Take n) k =
    record {
      state = put e.state (transition P n).process (transition P n).from;
      queue = queue_before e (transition P n).process (transition P n).operation k;
      memory = memory_before e (transition P n).process (transition P n).operation k;
    }
cube P e (Serialise p v) k =
    record {
      state = e.state;
      queue = put_queue e.queue p v (get_or (topmost e.memory.channel).snapshot v 0 ∷ e.queue p v);
      memory = serialise_memory P.shape e.memory p v k;
    }
cube P e (Update p) k = record { state = e.state; queue = e.queue; memory = update_memory P.shape e.memory p k }

-- ---- in a fixed order

abbrev pub operation_kinds : Shape → Operation → List Kind
operation_kinds S Nop = undone ∷ []
operation_kinds S (Read v x) = undone ∷ []
operation_kinds S (Write v x) = undone ∷ waited ∷ []
operation_kinds S Mfence = undone ∷ []
operation_kinds S Sfence = undone ∷ []
operation_kinds S (Arw v old new) = undone ∷ for_below S.variables (λ u. on_top u ∷ [])

-- the kinds to look at; those that there are, `has` says
abbrev pub kinds : Program → Configuration → Step → List Kind
kinds P e (Take n) = operation_kinds P.shape (transition P n).operation
kinds P e (Serialise p v) = undone ∷ for_below (length (older e.memory.channel)) (λ i. inside (suc i) ∷ []) ++ (on_top v ∷ [])
kinds P e (Update p) = undone ∷ for_below P.shape.processes (λ r. for_below P.shape.variables (λ u. pointed r u ∷ []))

abbrev pub cubes : Program → Configuration → Step → List Kind → List Configuration
cubes P e s [] = []
cubes P e s (k ∷ ks) = elim (has P e s k) [ true ↦ cube P e s k ∷ cubes P e s ks | false ↦ cubes P e s ks ]

abbrev pub predecessors : Program → Configuration → Step → List Configuration
predecessors P e s = cubes P e s (kinds P e s)

-- transitions by number, serialise by process then variable, update by process
abbrev pub steps : Program → List Step
steps P =
    for_below (length P.transitions) (λ n. Take n ∷ [])
    ++ for_below P.shape.processes (λ p. for_below P.shape.variables (λ v. Serialise p v ∷ []))
    ++ for_below P.shape.processes (λ p. Update p ∷ [])
