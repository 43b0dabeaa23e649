-- Programs of all but a few sizes need more entries for a target than a file may have.
use Prim.Native.Nat.{ℕ, zero, suc, ◌+◌, ◌*◌, ◌-◌, ◌^◌, ◌<◌, ◌≤◌}
use mathlib.Core.Path.{◌≡◌, refl, sym, ap, subst}
use mathlib.Core.Logic.{inl, inr}
use mathlib.Core.List.{[]}
use native.Mathlib.Omega.{arith}
use native.Mathlib.Nat.{suc-mul, mul-le-mul, mul-le-mul_left, pow-le-pow_right}
use native.Mathlib.Decide.{dec_le, ℕ_discrete}
use lib.ListN.{length, length-map}
use Rattle.machine_pws.specs.Program.{Shape}
use Rattle.list_theory.specs.Verdict.{TargetHeld, target, ListVerdict, safe, unheld, started, entered, ListJudged}
use Rattle.list_theory.specs.Shapes.{outlines, longest, outline_memory, memory_shapes}
use Rattle.list_exists.specs.Needed.{SmallSize, OthersNeedMore, OthersRefused}
use Rattle.list_exists.proofs.Needed.{entries_needed}
use Rattle.list_exists.proofs.NeededNumbers.{shape_count}
use Rattle.list_exists.proofs.NeededSums.{opens, sums_same}
use Rattle.list_exists.proofs.NeededLeast.{ways, from, least, outlines_least}

memories_least : (S : Shape) → least (S.processes * S.variables) S.variables (suc (longest S)) S.processes 0 ≤ length (memory_shapes S)
memories_least S =
    let all = outlines S (suc (longest S)) 0 [] (λ q. 0) in
    let e : opens S.processes (λ q. 0) ≡ S.processes = omega (arith, sums_same S.processes 1) in
    let h = subst (λ (u : ℕ). least (S.processes * S.variables) S.variables (suc (longest S)) u 0 ≤ length all) e (outlines_least S (suc (longest S)) 0 [] (λ q. 0)) in
    omega (arith, h, length-map all (outline_memory S))

-- ---- all processes at the oldest message, and different labels before it

-- of n labels, with m that are not seen
falling : ℕ → ℕ → ℕ
falling n zero = n
falling n (suc m) = suc m * falling n m + n

ways_all : (u : ℕ) (f : ℕ → ℕ) → f u ≤ ways u f
ways_all zero f = omega arith
ways_all (suc u) f = omega (arith, ways_all u (λ k. f k + f (suc k)))

-- all are placed at the next message
placed_next : (n variables fuel u s : ℕ) → 1 ≤ ways (suc u) (from 0 (λ k. least n variables (suc fuel) (suc u - k) s))
placed_next n variables fuel u s =
    let f : ℕ → ℕ = λ k. least n variables (suc fuel) (suc u - k) s in
    let e : 0 ≡ suc u - suc u = omega arith in
    let one : f (suc u) ≡ 1 = sym (ap (λ (w : ℕ). least n variables (suc fuel) w s) e) in
    omega (arith, ways_all (suc u) (from 0 f), one)

least_falling : (n variables u m fuel s : ℕ) → suc u * variables ≡ s + m → m + 2 ≤ fuel → falling n m ≤ least n variables fuel (suc u) s
unfolding falling
least_falling n variables u zero zero s e l = absurd (omega arith)
least_falling n variables u zero (suc zero) s e l = absurd (omega arith)
least_falling n variables u zero (suc (suc fuel)) s e l = omega (arith, mul-le-mul_left n (placed_next n variables fuel u (suc s)))
least_falling n variables u (suc m) zero s e l = absurd (omega arith)
least_falling n variables u (suc m) (suc zero) s e l = absurd (omega arith)
least_falling n variables u (suc m) (suc (suc fuel)) s e l =
    let ih = least_falling n variables u m (suc fuel) (suc s) (omega (arith, e)) (omega arith) in
    let left : suc m ≤ suc u * variables - s = omega (arith, e) in
    omega (arith, mul-le-mul_left n (placed_next n variables fuel u (suc s)), mul-le-mul left ih)

falling_more : (n k m : ℕ) → n ≤ k → falling n m ≤ falling k m
unfolding falling
falling_more n k zero l = l
falling_more n k (suc m) l = omega (arith, mul-le-mul_left (suc m) (falling_more n k m l))

falling_longer : (n m k : ℕ) → falling n m ≤ falling n (k + m)
unfolding falling
falling_longer n m zero = let e : 0 + m ≡ m = omega arith in rw e (omega arith)
falling_longer n m (suc k) = let e : suc k + m ≡ suc (k + m) = omega arith in rw e (omega (arith, falling_longer n m k, suc-mul (k + m) (falling n (k + m))))

six_labels : falling 6 6 ≡ 11742
unfolding falling
six_labels = refl

four_processes : least 4 1 9 4 0 ≡ 626756
four_processes = refl

five_processes : least 5 1 11 5 0 ≡ 205671755
five_processes = refl

-- ---- sizes

-- so many memories, and so many queues
record Large (c k p v : ℕ) : Type 0 where
  memories : c ≤ least (p * v) v (suc (p + p * v)) p 0
  queues : k ≤ 2 ^ (p * v)

six_or_more : (p v : ℕ) → 1 ≤ p → 6 ≤ p * v → Large 11742 64 p v
six_or_more zero v a l = absurd (omega arith)
six_or_more (suc p) v a l =
    let n = suc p * v in
    let e : (n - 6) + 6 ≡ n = omega arith in
    record {
      memories = omega (
        arith,
        six_labels,
        falling_more 6 n 6 l,
        subst (λ (w : ℕ). falling n 6 ≤ falling n w) e (falling_longer n 6 (n - 6)),
        least_falling n v p n (suc (suc p + n)) 0 (omega arith) (omega arith),
      );
      queues = pow-le-pow_right {n = 2} (omega arith) l;
    }

-- what other sizes there are
data Other : ℕ → ℕ → Type 0 where
  six : (p v : ℕ) → 6 ≤ p * v → Other p v
  four_one : Other 4 1
  five_one : Other 5 1

other : (p v : ℕ) → 1 ≤ p → 1 ≤ v → (SmallSize p v → ⊥) → Other p v
other p v a b f = elim (dec_le p 1) [
  | yes c ↦ elim (dec_le v 5) [
    | yes d ↦ absurd (f (inl (omega arith, d)))
    | no d ↦ let e : p ≡ 1 = omega arith in six p v (omega (arith, ap (λ (w : ℕ). w * v) e))
  ]
  | no c ↦ elim (dec_le v 2) [
    | yes d ↦ elim (dec_le p 2) [
      | yes g ↦ absurd (f (inr (inl (omega arith, d))))
      | no g ↦ elim (ℕ_discrete v 2) [
        | yes h ↦ let l : 3 ≤ p = omega arith in let m : 2 ≤ v = omega arith in six p v (omega (arith, mul-le-mul l m))
        | no h ↦ let one : 1 ≡ v = omega arith in subst (Other p) one (rows p (omega arith) (λ e. f (inr (inr (e, sym one)))))
      ]
    ]
    | no d ↦ let l : 2 ≤ p = omega arith in let m : 3 ≤ v = omega arith in six p v (omega (arith, mul-le-mul l m))
  ]
]
  where
    rows : (p : ℕ) → 3 ≤ p → (p ≡ 3 → ⊥) → Other p 1
    rows p l f = elim (dec_le 6 p) [
      | yes a ↦ six p 1 (omega arith)
      | no a ↦ elim (ℕ_discrete p 4) [
        | yes e ↦ subst (λ (w : ℕ). Other w 1) (sym e) four_one
        | no e ↦ elim (ℕ_discrete p 5) [
          | yes d ↦ subst (λ (w : ℕ). Other w 1) (sym d) five_one
          | no d ↦ absurd (f (omega arith))
        ]
      ]
    ]

-- each has enough of both
enough : (p v : ℕ) → 1 ≤ p → Other p v → 524288 < least (p * v) v (suc (p + p * v)) p 0 * 2 ^ (p * v)
enough p v a (six x y l) = let r = six_or_more x y a l in omega (arith, mul-le-mul r.memories r.queues)
enough p v a four_one = omega (arith, four_processes)
enough p v a five_one = omega (arith, five_processes)

pub others_need_more : OthersNeedMore
others_need_more P R f t o es H =
    let S = P.shape in
    let w = enough S.processes S.variables R.shape.some_process (other S.processes S.variables R.shape.some_process R.shape.some_variable f) in
    let q : 2 ^ (S.processes * S.variables) ≤ 2 ^ (S.processes * S.variables) = omega arith in
    omega (arith, w, mul-le-mul (memories_least S) q, shape_count S t, entries_needed P R t o es H)

pub others_refused : OthersRefused
others_refused P R f ts es short k l o v j = go v j
  where
    never : TargetHeld P es (target ts k) → ⊥
    never H = omega (arith, others_need_more P R f (target ts k) o es H)

    go : (v : ListVerdict) → ListJudged P ts es v → (j : ℕ) × (v ≡ unheld j)
    go (safe n) r = absurd (never (λ c o. r.1.targets c o k l))
    go (unheld m) r = (m, refl)
    go (started m) r = absurd (never (r.held k l))
    go (entered m s) r = absurd (never (r.held k l))
