-- Set-ups of one object keep the laws within the limits.
use Rattle.std.proofs.Common.{◌≡◌, ℕ, zero, suc, ◌<◌, length, replicate, Some, None, Option, sym, refl, ap, ◌∙◌, subst, lit<, lit≤, arith}
use Rattle.std.proofs.lemmas.List.{length-replicate}
use Rattle.std.proofs.lemmas.Slice.Eq.{bytes_eq-Decides}
use Rattle.std.specs.List.{AllByRecursion}
use Rattle.oracle.specs.Laws.{Object, Lawful}
use Rattle.oracle.specs.Limits.{full, single, widest, Within}
use Rattle.oracle.specs.Setup.{Code, Setup, vacant, filled}

pub within : (s : Setup) → Lawful s → Within s.width s.size s.height
within s law =
    record {
      width_upto = law.width_limit;
      size_from = law.size_positive;
      size_upto = law.size_limit;
      height_upto = law.height_limit;
    }

replicate_all : (P : ℕ → Type 0) (n x : ℕ) → P x → AllByRecursion P (replicate n x)
replicate_all P zero x p = tt
replicate_all P (suc n) x p = (p, replicate_all P n x p)

no_neighbour : {P : Type 0} (w : Code) (k : ℕ) → vacant ≡ filled w k → P
no_neighbour w k e = let z : ◌≡◌ {A = ℕ} 0 1 = cc in absurd (omega arith)

no_home : {P : Type 0} (h : ℕ) → ◌≡◌ {A = Option ℕ} None (Some h) → P
no_home h e = let z : ◌≡◌ {A = ℕ} 0 1 = cc in absurd (omega arith)

module _ (width size height : ℕ) where
  only : (v : Code) → Object (single width size height) v → v ≡ full size
  only v o = (bytes_eq-Decides v (full size)).0 o

  pub single_lawful : Within width size height → Lawful (single width size height)
  single_lawful w =
      record {
        width_limit = w.width_upto;
        size_positive = w.size_from;
        size_limit = w.size_upto;
        height_limit = w.height_upto;
        code_size = λ v o. ap length (only v o) ∙ length-replicate size 255;
        code_bytes =
            λ v o.
            subst (AllByRecursion (λ b. b < 256)) (sym (only v o)) (replicate_all (λ b. b < 256) size 255 (lit< tt));
        rank_limit = λ v o. omega arith;
        neighbour_object = λ v w j k o lt e. no_neighbour w k e;
        return_below = λ v w j k o lt e. no_neighbour w k e;
        return_leads_back = λ v w j k o lt e. no_neighbour w k e;
        root_object = (bytes_eq-Decides (full size) (full size)).1 refl;
        root_rank = refl;
        root_homeless = refl;
        has_home = λ v o n. absurd (n (only v o));
        home_below = λ v h o e. no_home h e;
        home_filled = λ v h o e. no_home h e;
        parent_lower = λ v u h i o e f. no_home h e;
      }

pub widest_lawful : Lawful widest
widest_lawful =
    single_lawful 4096 480 1000000
    (record { width_upto = lit≤ tt; size_from = lit≤ tt; size_upto = lit≤ tt; height_upto = lit≤ tt })
