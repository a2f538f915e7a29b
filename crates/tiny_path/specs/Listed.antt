-- What the definitions of the list and the walk come to on the path.
use Rattle.std.specs.Prelude.{◌≡◌, [], ◌∷◌, map}
use Rattle.oracle.specs.Listing.{listing}
use Rattle.oracle.specs.Setup.{Code}
use Rattle.oracle.specs.Walk.{walk}
use Rattle.tiny_path.specs.Setup.{code, path}

pub record Listed : Type 0 where
  pub objects : listing path ≡ code 0 ∷ code 1 ∷ code 2 ∷ []
  pub steps : map (λ (v : Code). (walk path v).steps) (listing path) ≡ 5 ∷ 7 ∷ 8 ∷ []
