-- Messages newest first and oldest first, and the cube of a shape.
use Prim.Native.Nat.{ℕ, zero, suc, ◌+◌, ◌-◌, ◌*◌, ◌<◌, ◌≤◌}
use mathlib.Core.Path.{◌≡◌, refl, sym, ap, ap₂, ◌∙◌}
use mathlib.Core.Bool.{Bool, true, false, cond, ◌&&◌, ◌||◌}
use mathlib.Core.List.{List, [], ◌∷◌, ◌++◌}
use native.Mathlib.Omega.{arith}
use lib.ListN.{length, get_or, take, drop, replicate, length-take, drop_of_length-le, get_or-append, get_or-replicate}
use lib.Seq.{drop-cons}
use lib.Dec.{ltb}
use borrow.Author.Tests.{le-ltb}
use Rattle.machine_pws.specs.declared.Message.{Message}
use Rattle.machine_pws.specs.Machine.{Memory, no_message}
use Rattle.machine_pws.specs.Tagged.{any_below}
use Rattle.file_records.specs.declared.program.Shape.{Shape}
use Rattle.file_records.specs.ProgramPart.{shape_of}
use Rattle.file_contents.specs.Cube.{no_queue, empty_queue, waiting_of, channel_of, queue_of}
use Rattle.file_contents.proofs.CubeParts.{queue_of_lem, queue_none}
use Rattle.list_theory.specs.Lists.{any_of}
use Rattle.list_theory.specs.Shapes.{outline_memory}
use Rattle.list_theory.proofs.Lists.{early_or}
use Rattle.list_key.proofs.RoleLaws.{labels}
use Rattle.list_targets.specs.ShapeCube.{outline_of, ShapeCube}

-- ---- labels

pub any_channel : (f : Message → Bool) (ms : List Message) (n : ℕ) → any_of f (channel_of ms n) ≡ any_below n (λ i. f (get_or ms i no_message))
any_channel f ms zero = refl
any_channel f ms (suc n) = early_or (f (get_or ms n no_message)) (any_of f (channel_of ms n)) ∙ ap (◌||◌ (f (get_or ms n no_message))) (any_channel f ms n)

-- ---- the first n messages turned round

pub turned_is : (ms turned : List Message) (n : ℕ) → n ≤ length ms → length turned ≡ length (take n ms)
    → ((k : ℕ) (d : Message) → k < length (take n ms) → get_or turned k d ≡ get_or (take n ms) (length (take n ms) - 1 - k) d) → channel_of (turned ++ drop n ms) n ≡ take n ms
turned_is ms turned n u r e = part n (omega arith) ∙ ap (λ (k : ℕ). drop k (take n ms)) {x = n - n} {y = 0} (omega arith)
  where
    size : length (take n ms) ≡ n
    size = length-take n ms ∙ omega arith

    part : (k : ℕ) → k ≤ n → channel_of (turned ++ drop n ms) k ≡ drop (n - k) (take n ms)
    part zero m = sym (drop_of_length-le (take n ms) {i = n} (omega (arith, size))) ∙ ap (λ (j : ℕ). drop j (take n ms)) {x = n} {y = n - 0} (omega arith)
    part (suc k) m =
        ap₂ {A = Message} {B = List Message} (λ x xs. x ∷ xs)
        (get_or-append turned (drop n ms) no_message k (omega (arith, size, r)) ∙ e k no_message (omega (arith, size))
        ∙ ap (λ (j : ℕ). get_or (take n ms) j no_message) {x = length (take n ms) - 1 - k} {y = n - suc k} (omega (arith, size)))
        (part k (omega arith) ∙ ap (λ (j : ℕ). drop j (take n ms)) {x = n - k} {y = suc (n - suc k)} (omega arith))
        ∙ sym (drop-cons (take n ms) (n - suc k) no_message (omega (arith, size)))

-- ---- the cube of a shape

pointer_is : (s : Shape) (messages : List Message) (n : ℕ) (places : List ℕ) → s.processes ≤ 4 → n ≤ length messages
    → (a b c d : ℕ)
    → a ≡ cond (ltb 0 s.processes) (n + 1 - get_or places 0 0) 0
    → b ≡ cond (ltb 1 s.processes) (n + 1 - get_or places 1 0) 0
    → c ≡ cond (ltb 2 s.processes) (n + 1 - get_or places 2 0) 0
    → d ≡ cond (ltb 3 s.processes) (n + 1 - get_or places 3 0) 0
    → (q : ℕ) → get_or (a ∷ b ∷ c ∷ d ∷ []) q 0 ≡ (outline_memory (shape_of s) (outline_of messages n places)).pointer q
pointer_is s messages n places few l a b c d ea eb ec ed = at
  where
    size : n + 1 ≡ suc (length (take n messages))
    size = omega (arith, length-take n messages)

    counted : (q : ℕ) → cond (ltb q s.processes) (n + 1 - get_or places q 0) 0 ≡ cond (ltb q s.processes) (suc (length (take n messages)) - get_or places q 0) 0
    counted q = ap (λ (k : ℕ). cond (ltb q s.processes) (k - get_or places q 0) 0) size

    at : (q : ℕ) → get_or (a ∷ b ∷ c ∷ d ∷ []) q 0 ≡ cond (ltb q s.processes) (suc (length (take n messages)) - get_or places q 0) 0
    at zero = ea ∙ counted 0
    at (suc zero) = eb ∙ counted 1
    at (suc (suc zero)) = ec ∙ counted 2
    at (suc (suc (suc zero))) = ed ∙ counted 3
    at (suc (suc (suc (suc q)))) = rw (le-ltb (suc (suc (suc (suc q)))) s.processes (omega arith)) refl

none_queued : (p v : ℕ) → queue_of (replicate 16 empty_queue) p v ≡ []
none_queued p v = at (ltb p 4 && ltb v 4) refl
  where
    at : (b : Bool) → ltb p 4 && ltb v 4 ≡ b → queue_of (replicate 16 empty_queue) p v ≡ []
    at true e =
        let w = labels p v e in
        queue_of_lem (replicate 16 empty_queue) p v w.0 w.1 ∙ ap waiting_of (get_or-replicate 16 (4 * p + v) empty_queue no_queue (omega (arith, w.0, w.1)))
    at false e = queue_none (replicate 16 empty_queue) p v e

pub shape_cube_is : (s : Shape) (states : List ℕ) (messages turned : List Message) (n : ℕ) (places : List ℕ) → s.processes ≤ 4 → n ≤ 20 → n ≤ length messages
    → channel_of turned n ≡ take n messages
    → (a b c d : ℕ)
    → a ≡ cond (ltb 0 s.processes) (n + 1 - get_or places 0 0) 0
    → b ≡ cond (ltb 1 s.processes) (n + 1 - get_or places 1 0) 0
    → c ≡ cond (ltb 2 s.processes) (n + 1 - get_or places 2 0) 0
    → d ≡ cond (ltb 3 s.processes) (n + 1 - get_or places 3 0) 0
    → ShapeCube s states messages n places (record { states = states; pointers = a ∷ b ∷ c ∷ d ∷ []; queues = replicate 16 empty_queue; messages = turned; count = n })
shape_cube_is s states messages turned n places few most l e a b c d ea eb ec ed =
    record {
      roomy = record { queues = refl; messages = most; waiting = λ p v. rw (none_queued p v) (omega arith) };
      stands = ap₂ {A = ℕ → ℕ → List ℕ} {B = Memory} (λ q m. record { state = λ (p : ℕ). get_or states p 0; queue = q; memory = m })
          (λ i p v. none_queued p v i)
          (ap₂ {A = List Message} {B = ℕ → ℕ} (λ ms z. record { channel = ms; pointer = z }) e (λ i q. pointer_is s messages n places few l a b c d ea eb ec ed q i));
    }
