-- What is compared of an entry's bytes and a cube. No statement rests on these definitions.
use Rattle.std.specs.Prelude.{ℕ, zero, suc, ◌+◌, ◌*◌, ◌-◌, ◌<◌, ◌≤◌, min, ◌≡◌, true, cond, List, [], ◌∷◌, length, get_or, set, replicate, eqb}
use Rattle.machine_pws.specs.Machine.{no_message, all_below}
use Rattle.file_records.specs.declared.program.Shape.{Shape}
use Rattle.base.specs.Bytes.{byte}
use Rattle.file_records.specs.Records.{message_at}
use Rattle.file_contents.specs.declared.entry.Queue.{Queue}
use Rattle.file_contents.specs.declared.entry.Cube.{Cube}
use Rattle.file_contents.specs.Tally.{queue_at}
use Rattle.file_contents.specs.Cube.{no_queue, empty_queue, loads_waiting, pushed, load_entry}
use Rattle.list_theory.specs.Values.{pairwise}
use Rattle.list_key.specs.Relation.{relation}
use Rattle.list_key.specs.Match.{queue_row}

-- ---- messages

-- from the 10 at a place on up to k there are 12s alone
pub data Leads (f : List ℕ) (at : ℕ) : ℕ → Type 0 where
  leads_none : Leads f at (at + 9)
  leads_more : {k : ℕ} → Leads f at k → loads_waiting f k ≡ true → Leads f at (k + 4)

-- m 11s stand one after another, the first of them seven bytes behind a place
abbrev pub Kinds : List ℕ → ℕ → ℕ → Type 0
Kinds f back m = (i : ℕ) → i < m → byte f (back + 7 + 7 * i) ≡ 17

-- the entry has the pointers of the 10 at a place, and its oldest m messages are these 11s
pub record Stands (f : List ℕ) (at back m : ℕ) (e : Cube) : Type 0 where
  pub least : m ≤ e.count
  pub most : e.count ≤ 20
  pub message : (i : ℕ) → i < m → get_or e.messages i no_message ≡ message_at f (back + 7 + 7 * i)
  pub pointers : e.pointers ≡ byte f (at + 5) ∷ byte f (at + 6) ∷ byte f (at + 7) ∷ byte f (at + 8) ∷ []

-- pointers at some of m messages
abbrev pub PointsWithin : ℕ → List ℕ → ℕ → Type 0
PointsWithin processes zs m = (p : ℕ) → p < min processes 4 → (1 ≤ get_or zs p 0) × (get_or zs p 0 ≤ m)

-- who of the first n processes points at message i: 1 for the first process, 2 for the next, then 4 and so on, added up
abbrev pub one_of : ℕ → ℕ
one_of zero = 1
one_of (suc p) = one_of p + one_of p

abbrev pub pointed_by : ℕ → List ℕ → ℕ → ℕ
pointed_by zero zs i = 0
pointed_by (suc p) zs i = pointed_by p zs i + (cond (eqb (get_or zs p 0) i) (one_of p) 0)

abbrev pub Pointing : ℕ → List ℕ → List ℕ → Type 0
Pointing n zs who = (i : ℕ) → i < 21 → get_or who i 0 ≡ pointed_by n zs i

-- ---- waiting values

-- a 12 of the queue q stands at k
pub record WaitsAt (f : List ℕ) (k q : ℕ) : Type 0 where
  pub loads : loads_waiting f k ≡ true
  pub queue : queue_at f k ≡ q
  pub inside : k + 4 ≤ length f

-- the 12s from k up to n are of the queue q, and this is what they leave in it
pub data HeldFrom (f : List ℕ) (q k : ℕ) : Queue → ℕ → Type 0 where
  none : HeldFrom f q k empty_queue k
  more : {u : Queue} {n : ℕ} → HeldFrom f q k u n → WaitsAt f n q → HeldFrom f q k (pushed u (byte f (n + 3))) (n + 4)

-- the 12s from k up to n leave this in the sixteen queues
pub data Took (f : List ℕ) (k : ℕ) : List Queue → ℕ → Type 0 where
  took_none : Took f k (replicate 16 empty_queue) k
  took_more : {qs : List Queue} {n : ℕ} → Took f k qs n → loads_waiting f n ≡ true → Took f k (set qs (queue_at f n) (pushed (get_or qs (queue_at f n) no_queue) (byte f (n + 3)))) (n + 4)

-- where the 12s begin: behind the m 11s, or behind the 10 if these do not stand there
pub record FirstWait (at back m r : ℕ) : Type 0 where
  pub behind : back ≡ at + 2 → r ≡ back + 7 + 7 * m
  pub ahead : (back ≡ at + 2 → ⊥) → r ≡ at + 9

-- ---- an entry but for its pointers and older messages

pub record Within (f : List ℕ) (at : ℕ) (s : Shape) (ls : List ℕ) (qs : List Queue) (xs : List ℕ) : Type 0 where
  pub some : 1 ≤ (load_entry f at).count
  pub few : (load_entry f at).count ≤ 20
  pub states : all_below (min s.processes 4) (λ p. eqb (get_or (load_entry f at).states p 0) (get_or ls p 0)) ≡ true
  pub queues : all_below (min s.processes 4) (queue_row s.variables true (load_entry f at).queues qs) ≡ true
  pub newest : pairwise (relation true) (get_or (load_entry f at).messages ((load_entry f at).count - 1) no_message).snapshot xs ≡ true
