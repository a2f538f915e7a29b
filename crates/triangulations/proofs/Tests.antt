-- The tests decide what they are named for.
use Rattle.std.proofs.Common.{ℕ, ◌+◌, ◌-◌, ◌<◌, Bool, not, ◌&&◌, eqb, ltb, Decides}
use Rattle.std.proofs.lemmas.Bool.Decides.{Decides-eqb, Decides-ltb, Decides-and, Decides-or, Decides-not, Decides-like}
use Rattle.triangulations.specs.Polygon.{Side, Diagonal, Cross, is_side, is_diagonal, crosses}

pub decides_three : {P Q R : Type 0} (x y z : Bool) → Decides x P → Decides y Q → Decides z R → Decides (x && (y && z)) (P × Q × R)
decides_three x y z p q r =
    Decides-like (x && (y && z)) (λ w. (w.0, w.1.0, w.1.1)) (λ w. (w.0, (w.1, w.2))) (Decides-and x (y && z) p (Decides-and y z q r))

pub side_decides : (n : ℕ) (p : ℕ × ℕ) → Decides (is_side n p) (Side n p)
unfolding is_side
side_decides n p =
    Decides-or (eqb p.1 (p.0 + 1)) (eqb p.0 0 && eqb p.1 (n - 1)) (Decides-eqb p.1 (p.0 + 1))
    (Decides-and (eqb p.0 0) (eqb p.1 (n - 1)) (Decides-eqb p.0 0) (Decides-eqb p.1 (n - 1)))

pub diagonal_decides : (n : ℕ) (p : ℕ × ℕ) → Decides (is_diagonal n p) (Diagonal n p)
unfolding is_diagonal
diagonal_decides n p =
    decides_three (ltb p.0 p.1) (ltb p.1 n) (not (is_side n p)) (Decides-ltb p.0 p.1) (Decides-ltb p.1 n)
    (Decides-not (is_side n p) (side_decides n p))

ordered : (a b c d : ℕ) → Decides (ltb a b && (ltb b c && ltb c d)) ((a < b) × (b < c) × (c < d))
ordered a b c d = decides_three (ltb a b) (ltb b c) (ltb c d) (Decides-ltb a b) (Decides-ltb b c) (Decides-ltb c d)

pub crosses_decides : (p q : ℕ × ℕ) → Decides (crosses p q) (Cross p q)
unfolding crosses
crosses_decides p q =
    Decides-or (ltb p.0 q.0 && (ltb q.0 p.1 && ltb p.1 q.1)) (ltb q.0 p.0 && (ltb p.0 q.1 && ltb q.1 p.1))
    (ordered p.0 q.0 p.1 q.1) (ordered q.0 p.0 q.1 p.1)
