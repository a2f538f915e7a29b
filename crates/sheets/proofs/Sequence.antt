-- Which kinds of lines may come behind which.
use Rattle.std.proofs.Common.{◌≡◌, true, false, Some, None, refl}
use Rattle.items.specs.declared.line.Kind.{Kind}
use Rattle.items.specs.declared.line.Kind.TheVariants.{Regions, Polygon, Pair, Cap, Stop}
use Rattle.sheets.specs.Order.{follows, stopped}
use Rattle.sheets.specs.Settings.{Settings, Topic}

pub no_true : {Y : Type 0} → false ≡ true → Y
no_true e = cc

-- a kind behind which a pair, a cap or the full stop may come
abbrev pub InBody : Kind → Type 0
InBody Regions = Unit {0}
InBody Polygon = Unit {0}
InBody Pair = Unit {0}
InBody Cap = ⊥
InBody Stop = ⊥

-- what the body of a sheet has asked for so far: the last line's kind and the subject
abbrev pub body : Kind → Topic → Settings
body k t = record { last = Some k; topic = Some t; cap = None; most = 0 }

pub record Body (k : Kind) : Type 0 where
  pub not_stopped : stopped (Some k) ≡ false
  pub then_pair : follows (Some k) Pair ≡ true
  pub then_cap : follows (Some k) Cap ≡ true
  pub then_stop : follows (Some k) Stop ≡ true

pub in_body : (k : Kind) → InBody k → Body k
in_body Regions h = record { not_stopped = refl; then_pair = refl; then_cap = refl; then_stop = refl }
in_body Polygon h = record { not_stopped = refl; then_pair = refl; then_cap = refl; then_stop = refl }
in_body Pair h = record { not_stopped = refl; then_pair = refl; then_cap = refl; then_stop = refl }
in_body Cap h = absurd h
in_body Stop h = absurd h

-- the subject is given once, on line 1
pub never_again : (j : Kind) → (follows (Some j) Regions ≡ false) × (follows (Some j) Polygon ≡ false)
never_again Regions = (refl, refl)
never_again Polygon = (refl, refl)
never_again Pair = (refl, refl)
never_again Cap = (refl, refl)
never_again Stop = (refl, refl)
