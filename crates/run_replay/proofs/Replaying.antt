-- The replay of the code is the run of the machine.
use Prim.Native.Nat.{ℕ, zero, suc, ◌+◌, ◌*◌, ◌<◌, ◌≤◌, max}
use mathlib.Core.Path.{◌≡◌, refl, sym, ap, ap₂, subst, ◌∙◌, fun_ext}
use mathlib.Core.Logic.{◌⊎◌, inl, inr, ⊎_elim}
use mathlib.Core.Bool.{Bool, true, false, cond, ◌&&◌}
use mathlib.Core.Option.{Option, none, some}
use mathlib.Core.List.{List, [], ◌∷◌}
use native.Mathlib.Omega.{arith}
use native.Mathlib.Decide.{dec_le}
use lib.ListN.{get_or-eq_default, length, get_or, replicate, get_or-replicate}
use lib.Dec.{T, eqb, ltb}
use Rattle.std.specs.Prelude.{Option as Maybe, Some, None, Ok, Err}
use borrow.Author.Tests.{le-leb, lt-leb, lt-ltb}
use Rattle.machine_pws.specs.declared.Step.{Step}
use Rattle.machine_pws.specs.Program as pws
use Rattle.machine_pws.specs.Machine.{Configuration, last_write, may, after}
use Rattle.machine_pws.specs.Configurations.{in_target, start_with}
use Rattle.machine_pws.specs.Sequences as sequences
use Rattle.file_records.specs.declared.program.Program.{Program}
use Rattle.base.specs.Bytes.{choose, byte}
use Rattle.file_records.specs.Records.{is_kind, state_at, step_body, step_at}
use Rattle.file_records.specs.ProgramPart.{table_from, shape_of, program_of, targets_of}
use Rattle.file_contents.specs.EvidencePart.{steps_of}
use Rattle.run_layout.specs.declared.arrays.Run.{Run}
use Rattle.run_layout.specs.declared.moves.Move.{Move}
use Rattle.base.proofs.Tests.{all_equal, few_all}
use Rattle.run_step.specs.declared.last_test.RunAnswer.{RunAnswer}
use Rattle.run_step.specs.declared.last_test.RunAnswer.TheVariants.{Reachable}
use Rattle.run_replay.specs.Replay as run
use Rattle.run_causes.specs.Causes.{Answer, step_answer, is_permitted}
use Rattle.run_replay.specs.Answers.{verdict_of_run, last_answer, answer_then, answer_from, run_answer, RunOf}
use Rattle.run_layout.specs.Layout.{put_snapshot, move_of}
use Rattle.run_step.specs.Answering.{answer_in}
use Rattle.run_step.specs.After.{run_after}
use Rattle.run_step.specs.Stored.{lower_after}
use Rattle.run_step.specs.LastTest.{target_at, in_target_in, next_target, last_from}
use Rattle.run_replay.specs.Loop.{next_step, first_run, first_rows, move_then, run_from, replay_in}
use Rattle.run_layout.proofs.AreaLaws.{snapshot_length}
use Rattle.run_layout.proofs.ByteLaws.{snapshot_same}
use Rattle.run_causes.proofs.CauseLaws.{answer_may}
use Rattle.run_layout.proofs.Kept.{Kept}
use Rattle.run_replay.proofs.Holding.{MemoryHeld, QueuesHeld}
use Rattle.run_replay.proofs.Stepping.{kept_of, move_in, answer_of, answer_is, step_kept}

-- ---- the verdict without the cause

then_verdict : (S : pws.Shape) (ts : List (ℕ → ℕ)) (n k : ℕ) (x : Answer) (y : RunAnswer) (z : sequences.Replay) (b : Bool) → is_permitted x ≡ b
    → verdict_of_run y ≡ run.verdict_of S ts n z
    → verdict_of_run (answer_then x k (λ _. y)) ≡ run.verdict_of S ts n (elim b [ true ↦ z | false ↦ sequences.stopped k ])
then_verdict S ts n k (Ok _) y z true e h = h
then_verdict S ts n k (Ok _) y z false e h = absurd (subst T e tt)
then_verdict S ts n k (Err cause) y z true e h = absurd (subst T (sym e) tt)
then_verdict S ts n k (Err cause) y z false e h = refl

last_verdict : (n : ℕ) (o : Option ℕ) → verdict_of_run (last_answer n o) ≡ run.last_test n o
last_verdict n none = refl
last_verdict n (some k) = refl

answers_verdict : (P : pws.Program) (ts : List (ℕ → ℕ)) (n k : ℕ) (c : Configuration) (ss : List Step)
    → verdict_of_run (answer_from P ts n k c ss) ≡ run.verdict_of P.shape ts n (sequences.replay P k c ss)
answers_verdict P ts n k c [] = last_verdict n (run.lowest_met P.shape 0 ts c)
answers_verdict P ts n k c (s ∷ ss) =
    then_verdict P.shape ts n k (step_answer P c s) (answer_from P ts n (suc k) (after P c s) ss) (sequences.replay P (suc k) (after P c s) ss) (may P c s)
    (answer_may P c s) (answers_verdict P ts n (suc k) (after P c s) ss)

-- the answer says the verdict
pub answer_verdict : (P : pws.Program) (ts : List (ℕ → ℕ)) (memory : List ℕ) (ss : List Step) → verdict_of_run (run_answer P ts memory ss) ≡ run.run_verdict P ts memory ss
answer_verdict P ts memory ss = answers_verdict P ts (length ss) 0 (start_with P memory 0 0) ss

-- ---- past the end of a file everything is 0

byte_past : (f : List ℕ) (i : ℕ) → length f ≤ i → byte f i ≡ 0
byte_past f i l = get_or-eq_default f 0 l

-- the step at a place past the end, and those after it
step_past : (f : List ℕ) (x y : ℕ) → length f ≤ x → length f ≤ y → step_at f x ≡ step_at f y
unfolding step_at is_kind
step_past f x y a b =
    rw (byte_past f x a, byte_past f y b, byte_past f (x + 1) (omega arith), byte_past f (y + 1) (omega arith))

steps_past : (f : List ℕ) (n x y : ℕ) → length f ≤ x → length f ≤ y → steps_of f x n ≡ steps_of f y n
unfolding steps_of
steps_past f zero x y a b = refl
steps_past f (suc n) x y a b =
    ap₂ (λ (s : Step) (ss : List Step). s ∷ ss) (step_past f x y a b)
    (steps_past f n (x + (1 + step_body f x)) (y + (1 + step_body f y)) (omega arith) (omega arith))

pub steps_next : (f : List ℕ) (n at : ℕ) → steps_of f (at + (1 + step_body f at)) n ≡ steps_of f (next_step f at) n
unfolding next_step
steps_next f n at = elim (dec_le (length f) at) [
  | yes l ↦ rw (le-leb (length f) at l) (steps_past f n (at + (1 + step_body f at)) at (omega arith) l)
  | no l ↦ rw (lt-leb (length f) at (omega arith))
]

pub steps_length : (f : List ℕ) (n at : ℕ) → length (steps_of f at n) ≡ n
unfolding steps_of
steps_length f zero at = refl
steps_length f (suc n) at = ap suc (steps_length f n (at + (1 + step_body f at)))

-- ---- the last test

abbrev Near : List ℕ → ℕ → ℕ → Type 0
Near f at place = (at ≡ place) ⊎ ((length f ≤ at) × (length f ≤ place))

near_next : (f : List ℕ) (at place : ℕ) → Near f at place → Near f (next_target f at) (place + 5)
unfolding next_target
near_next f at place w = elim (dec_le (length f) at) [
  | yes l ↦ rw (le-leb (length f) at l) (inr (l, ⊎_elim (λ e. omega arith) (λ e. omega (arith, e.1)) w))
  | no l ↦ rw (lt-leb (length f) at (omega arith)) (⊎_elim (λ e. inl (omega arith)) (λ e. absurd (l e.0)) w)
]

module _ (f : List ℕ) (p : Program) (few : p.shape.processes ≤ 4) (states : List ℕ) (c : Configuration)
    (held : (q : ℕ) → q < p.shape.processes → get_or states q 0 ≡ c.state q) where
  state_byte : (at q : ℕ) → q < 4 → state_at f at q ≡ byte f (at + (1 + q))
  state_byte at q l = rw (lt-ltb q 4 l)

  target_byte : (at q : ℕ) → q < 4 → get_or (target_at f at) q 0 ≡ byte f (at + (1 + q))
  target_byte at zero l = refl
  target_byte at (suc zero) l = refl
  target_byte at (suc (suc zero)) l = refl
  target_byte at (suc (suc (suc zero))) l = refl
  target_byte at (suc (suc (suc (suc q)))) l = absurd (omega arith)

  -- the states are those of the target
  met_is : (at : ℕ) → in_target_in f at p.shape states ≡ in_target (shape_of p.shape) (state_at f at) c
  unfolding in_target_in
  met_is at =
      let g : ℕ → Bool = λ q. eqb (get_or states q 0) (get_or (target_at f at) q 0) in
      few_all p.shape.processes g few ∙ all_equal p.shape.processes g (λ q. eqb (c.state q) (state_at f at q)) (λ q l.
      ap₂ eqb (held q l) (target_byte at q (omega arith) ∙ sym (state_byte at q (omega arith))))

  state_past : (x y q : ℕ) → length f ≤ x → length f ≤ y → state_at f x q ≡ state_at f y q
  state_past x y q a b = ap (λ (z : ℕ). cond (ltb q 4) z 0) (byte_past f (x + (1 + q)) (omega arith) ∙ sym (byte_past f (y + (1 + q)) (omega arith)))

  -- two places of targets are one, or both past the end
  near_met : (at place : ℕ) → Near f at place → in_target_in f at p.shape states ≡ in_target (shape_of p.shape) (state_at f place) c
  near_met at place w =
      met_is at
      ∙ ⊎_elim (λ e. ap (λ (x : ℕ). in_target (shape_of p.shape) (state_at f x) c) e)
      (λ e. ap (λ (t : ℕ → ℕ). in_target (shape_of p.shape) t c) (fun_ext (λ q. state_past at place q e.0 e.1))) w

  pub targets_last : (steps n at i : ℕ) → Near f at (p.targets.at + 5 * i)
      → last_from f p.shape states steps at i n ≡ last_answer steps (run.lowest_met (shape_of p.shape) i (table_from (λ j. state_at f (p.targets.at + 5 * j)) i n) c)
  unfolding last_from
  targets_last steps zero at i w = refl
  targets_last steps (suc n) at i w =
      go (in_target_in f at p.shape states) (in_target (shape_of p.shape) (state_at f (p.targets.at + 5 * i)) c)
      (last_from f p.shape states steps (next_target f at) (i + 1) n)
      (run.lowest_met (shape_of p.shape) (suc i) (table_from (λ j. state_at f (p.targets.at + 5 * j)) (suc i) n) c)
      (near_met at (p.targets.at + 5 * i) w)
      (ap (λ (j : ℕ). last_from f p.shape states steps (next_target f at) j n) (omega arith)
      ∙ targets_last steps n (next_target f at) (suc i) (subst (Near f (next_target f at)) (omega arith) (near_next f at (p.targets.at + 5 * i) w)))
    where
      go : (x y : Bool) (u : RunAnswer) (o : Option ℕ) → x ≡ y → u ≡ last_answer steps o
          → choose x (λ _. Reachable steps i) (λ _. u) ≡ last_answer steps (cond y (some i) o)
      go true true u o e h = refl
      go false false u o e h = h
      go true false u o e h = absurd (subst T e tt)
      go false true u o e h = absurd (subst T (sym e) tt)

-- ---- the start

pub zeros_at : (n i : ℕ) → ◌≡◌ {A = ℕ} (get_or (replicate n 0) i 0) 0
zeros_at zero i = refl
zeros_at (suc n) zero = refl
zeros_at (suc n) (suc i) = zeros_at n i

ones_at : (i : ℕ) → i < 4 → ◌≡◌ {A = ℕ} (get_or (replicate 5 1) (i + 1) 0) 1
ones_at zero l = refl
ones_at (suc zero) l = refl
ones_at (suc (suc zero)) l = refl
ones_at (suc (suc (suc zero))) l = refl
ones_at (suc (suc (suc (suc i)))) l = absurd (omega arith)

first_row : (q : ℕ) → q < 4 → get_or first_rows q [] ≡ replicate 5 1
first_row q l = get_or-replicate 4 q (replicate 5 1) [] l

module _ (g : List ℕ) (p : Program) (R : pws.ProgramInRange (program_of g p)) (four : length p.initial ≡ 4) (memory : List ℕ) (values : length memory ≡ 4)
    (a : List ℕ) (room : length a ≡ 16384) where
  abbrev S₀ : pws.Shape
  S₀ = shape_of p.shape

  abbrev c₀ : Configuration
  c₀ = start_with (program_of g p) memory 0 0

  points_first : (q : ℕ) → q < p.shape.processes → c₀.memory.pointer q ≡ 1
  points_first q l = rw (lt-ltb q p.shape.processes l)

  last_first : (q v : ℕ) → q < p.shape.processes → last_write c₀.memory q v ≡ 1
  last_first q v l =
      ap (λ (z : ℕ). max z (cond (eqb 0 q && eqb 0 v) 1 0)) (points_first q l) ∙ go (eqb 0 q && eqb 0 v)
    where
      go : (b : Bool) → max 1 (cond b 1 0) ≡ 1
      go true = refl
      go false = refl

  first_memory : MemoryHeld S₀ 1 first_rows (put_snapshot a 1 memory) c₀.memory
  first_memory =
      record {
        count = refl;
        some = omega arith;
        snapshots = λ i l h. let e : i ≡ 1 = omega arith in rw e (snapshot_same a 1 memory (omega arith) values);
        pointers = λ q e. ap (λ (r : List ℕ). get_or r 0 0) (first_row q (omega (arith, R.shape.processes))) ∙ sym (points_first q e);
        last_writes = λ q v e ve.
            ap (λ (r : List ℕ). get_or r (v + 1) 0) (first_row q (omega (arith, R.shape.processes))) ∙ ones_at v (omega (arith, R.shape.variables))
            ∙ sym (last_first q v e);
        row_count = refl;
        row_length = λ q l. ap length (first_row q l);
        low = λ q e. omega (arith, points_first q e);
        high = λ q e. omega (arith, points_first q e);
      }

  first_queues : QueuesHeld S₀ (replicate 16 0) (replicate 16 0) (put_snapshot a 1 memory) 0 c₀.queue
  first_queues =
      record {
        values = λ q v e ve. rw (zeros_at 16 (4 * q + v)) refl;
        head_count = refl;
        tail_count = refl;
        order = λ q. omega arith;
        most = λ q. omega (arith, zeros_at 16 q);
      }

  first_kept : Kept S₀ 0 (first_run p.initial) (put_snapshot a 1 memory) c₀
  first_kept =
      kept_of (λ q e. sym (rw (lt-ltb q p.shape.processes e))) four first_memory first_queues (snapshot_length a 1 memory ∙ room) (omega arith)

-- ---- all steps

module _ (g f : List ℕ) (p : Program) (R : pws.ProgramInRange (program_of g p)) (steps : ℕ) where
  abbrev rest : ℕ → ℕ → Run → List ℕ → ℕ → RunAnswer
  rest k at run a n = run_from g f p.shape p.transitions p.targets steps k at run a n

  abbrev P₁ : pws.Program
  P₁ = program_of g p

  -- one step, the others being right
  one_step : (k : ℕ) (run : Run) (a : List ℕ) (c : Configuration) (s : Step) (x : Move → RunAnswer) (y : RunAnswer) (o : Maybe Move) (b : Answer) → step_answer P₁ c s ≡ b
      → answer_of run a p.shape o ≡ step_answer P₁ c s → (T (may P₁ c s) → x (move_in o) ≡ y)
      → move_then o k (λ m. answer_then (answer_in run a p.shape m) k (λ _. x m)) ≡ answer_then (step_answer P₁ c s) k (λ _. y)
  one_step k run a c s x y None b e q h = ap (λ (z : Answer). answer_then z k (λ _. y)) q
  one_step k run a c s x y (Some m) (Ok _) e q h =
      ap (λ (z : Answer). answer_then z k (λ _. x m)) (q ∙ e) ∙ h (subst T (ap is_permitted (sym e) ∙ answer_may P₁ c s) tt)
      ∙ ap (λ (z : Answer). answer_then z k (λ _. y)) (sym e)
  one_step k run a c s x y (Some m) (Err cause) e q h =
      ap (λ (z : Answer). answer_then z k (λ _. x m)) (q ∙ e) ∙ ap (λ (z : Answer). answer_then z k (λ _. y)) (sym e)

  all_steps : (n k at : ℕ) (run : Run) (a : List ℕ) (c : Configuration) → Kept (shape_of p.shape) k run a c → k + n ≤ 1024
      → rest k at run a n ≡ answer_from P₁ (targets_of g p) steps k c (steps_of f at n)
  unfolding run_from steps_of
  all_steps zero k at run a c K l =
      targets_last g p R.shape.processes run.states c K.represents.states steps p.targets.count p.targets.at 0 (inl (omega arith))
  all_steps (suc n) k at run a c K l =
      let s = step_at f at in
      let m = move_in (move_of g p.transitions s) in
      one_step k run a c s _ _ (move_of g p.transitions s) (step_answer P₁ c s) refl (answer_is g p R k run a c K s) (λ t.
      let e : suc k ≡ k + 1 = omega arith in
      all_steps n (k + 1) (next_step f at) (run_after run m) (lower_after a run m) (after P₁ c s)
      (subst (λ (j : ℕ). Kept (shape_of p.shape) j (run_after run m) (lower_after a run m) (after P₁ c s)) e
      (step_kept g p R k run a c K (omega arith) s t)) (omega arith)
      ∙ ap₂ (λ (j : ℕ) (ss : List Step). answer_from P₁ (targets_of g p) steps j (after P₁ c s) ss) (sym e) (sym (steps_next f n at)))

-- the code's answer is that of the machine's run, from a start with the memory over the steps of the evidence
pub replay_right : (g f : List ℕ) (p : Program) → pws.ProgramInRange (program_of g p) → length p.initial ≡ 4 → (memory : List ℕ) → length memory ≡ 4 → (at count : ℕ)
    → count ≤ 1024 → (a : List ℕ) → length a ≡ 16384 → replay_in g f p memory at count a ≡ run_answer (program_of g p) (targets_of g p) memory (steps_of f at count)
replay_right g f p R four memory values at count few a room =
    all_steps g f p R count count 0 at (first_run p.initial) (put_snapshot a 1 memory) (start_with (program_of g p) memory 0 0) (first_kept g p R four memory values a room) (omega arith)
    ∙ ap (λ (n : ℕ). answer_from (program_of g p) (targets_of g p) n 0 (start_with (program_of g p) memory 0 0) (steps_of f at count)) (sym (steps_length f count at))

pub run_of : {r : RunAnswer} (P : pws.Program) (ts : List (ℕ → ℕ)) (memory : List ℕ) (ss : List Step) → r ≡ run_answer P ts memory ss → RunOf r P ts memory ss
run_of P ts memory ss e = record { answer = e; verdict = ap verdict_of_run e ∙ answer_verdict P ts memory ss }
