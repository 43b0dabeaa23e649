-- The text of a run (request N12), in ASCII: the line `digraph run {`, a line `c0;` for each node, a line `c0 -> c1 [label=t0];` for
-- each edge, both in order, and the line `}`, each ended by a line feed.
use Rattle.std.specs.Prelude.{ℕ, zero, suc, ◌+◌, ◌/◌, ◌%◌, List, [], ◌∷◌, ◌++◌, length, ltb}
use Rattle.base.specs.Bytes.{choose}
use Rattle.machine_pws.specs.declared.Step.{Step}
use Rattle.machine_pws.specs.declared.Step.TheVariants.{Take, Serialise, Update}

abbrev pub digit : ℕ → ℕ
digit d = 48 + d

-- n in decimal, with no leading zero; `places` bounds the digits after the first, and n itself is bound enough
unfoldable pub decimal_in : ℕ → ℕ → List ℕ
decimal_in zero n = digit n ∷ []
decimal_in (suc places) n = choose (ltb n 10) (λ _. digit n ∷ []) (λ _. decimal_in places (n / 10) ++ (digit (n % 10) ∷ []))

unfoldable pub decimal : ℕ → List ℕ
decimal n = decimal_in n n

-- t and the number, s with process and variable, u and the process: `t0`, `s01`, `u1`
unfoldable pub letters : Step → List ℕ
letters (Take n) = 116 ∷ decimal n
letters (Serialise p v) = 115 ∷ digit p ∷ digit v ∷ []
letters (Update p) = 117 ∷ digit p ∷ []

-- `c0`, `c1` and so on
abbrev pub name : ℕ → List ℕ
name k = 99 ∷ decimal k

abbrev pub line : List ℕ → List ℕ
line w = w ++ (10 ∷ [])

-- `digraph run {`
abbrev pub opening : List ℕ
opening = 100 ∷ 105 ∷ 103 ∷ 114 ∷ 97 ∷ 112 ∷ 104 ∷ 32 ∷ 114 ∷ 117 ∷ 110 ∷ 32 ∷ 123 ∷ []

-- ` -> `
abbrev pub arrow : List ℕ
arrow = 32 ∷ 45 ∷ 62 ∷ 32 ∷ []

-- ` [label=`
abbrev pub label_opening : List ℕ
label_opening = 32 ∷ 91 ∷ 108 ∷ 97 ∷ 98 ∷ 101 ∷ 108 ∷ 61 ∷ []

-- `c0;`
unfoldable pub node_line : ℕ → List ℕ
node_line k = line (name k ++ (59 ∷ []))

-- `c0 -> c1 [label=t0];`
unfoldable pub edge_line : ℕ → Step → List ℕ
edge_line k s = line (name k ++ (arrow ++ (name (suc k) ++ (label_opening ++ (letters s ++ (93 ∷ 59 ∷ []))))))

-- n lines, from number k on
unfoldable pub node_lines : ℕ → ℕ → List ℕ
node_lines k zero = []
node_lines k (suc n) = node_line k ++ node_lines (suc k) n

unfoldable pub edge_lines : ℕ → List Step → List ℕ
edge_lines k [] = []
edge_lines k (s ∷ ss) = edge_line k s ++ edge_lines (suc k) ss

-- a node for each configuration: one more than the steps
unfoldable pub text : List Step → List ℕ
text ss = line opening ++ (node_lines 0 (suc (length ss)) ++ (edge_lines 0 ss ++ line (125 ∷ [])))
