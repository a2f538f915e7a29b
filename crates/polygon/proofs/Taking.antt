-- A row of bytes judged over its rows, and taken.
use Rattle.std.proofs.Common.{◌≡◌, ℕ, suc, ◌<◌, ◌≤◌, Bool, true, false, ◌&&◌, eqb, List, [], ◌∷◌, length, get_or, Ok, Err, sym, refl, ap, ◌∙◌}
use mir.Val.{bool_byte}
use Rattle.std.specs.List.{AllByRecursion}
use Rattle.oracle.specs.Calls.{taken}
use Rattle.oracle.specs.Setup.{Code}
use Rattle.refusals.specs.declared.Refusal.TheVariants.{NotACode}
use Rattle.pairs.specs.Pairs.{corners_of}
use Rattle.triangulations.proofs.Bytes.{row_decides, members_small, code_members}
use Rattle.triangulations.proofs.Objects.{object_decides, object_in_row}
use Rattle.triangulations.specs.Census.{polygon, is_object}
use Rattle.triangulations.specs.Codes.{members, code_of, Row}
use Rattle.triangulations.specs.Polygon.{is_diagonal}
use Rattle.triangulations.specs.Textbook.{Triangulation}
use Rattle.polygon.proofs.Crossings.{fits_all}
use Rattle.polygon.proofs.Steps.{Settled, settled}
use Rattle.triangulations.specs.Search.{every}
use Rattle.polygon.specs.Rows.{Tied, set_of, is_free, fits}

module _ (n : ℕ) (v : Code) (rows : List ℕ) (e : ℕ) where
  judge : Bool → Bool
  judge b = elim b [ true ↦ eqb (members v e) 1 | false ↦ eqb (members v e) 0 ]

  fits-at : (b : Bool) → is_diagonal n (corners_of e) ≡ b
      → fits n v rows e ≡ (elim b [ true ↦ judge (is_free rows (corners_of e).0 (corners_of e).1) | false ↦ eqb (members v e) 0 ])
  unfolding fits judge
  fits-at b h = ap (λ (x : Bool). elim x [ true ↦ judge (is_free rows (corners_of e).0 (corners_of e).1) | false ↦ eqb (members v e) 0 ]) h

  pub fits_not : is_diagonal n (corners_of e) ≡ false → fits n v rows e ≡ eqb (members v e) 0
  fits_not h = fits-at false h

  pub fits_free : is_diagonal n (corners_of e) ≡ true → is_free rows (corners_of e).0 (corners_of e).1 ≡ true → fits n v rows e ≡ eqb (members v e) 1
  unfolding judge
  fits_free h f = fits-at true h ∙ ap judge f

  pub fits_bound : is_diagonal n (corners_of e) ≡ true → is_free rows (corners_of e).0 (corners_of e).1 ≡ false → fits n v rows e ≡ eqb (members v e) 0
  unfolding judge
  fits_bound h f = fits-at true h ∙ ap judge f

  -- the test of a pair with the corners p
  pub fits_test : (p : ℕ × ℕ) → p ≡ corners_of e → (b : Bool) → b ≡ (is_diagonal n p && is_free rows p.0 p.1) → eqb (members v e) (bool_byte b) ≡ fits n v rows e
  fits_test p at b q = go (is_diagonal n (corners_of e)) refl (is_free rows (corners_of e).0 (corners_of e).1) refl
    where
      test : b ≡ (is_diagonal n (corners_of e) && is_free rows (corners_of e).0 (corners_of e).1)
      test = q ∙ ap (λ (r : ℕ × ℕ). is_diagonal n r && is_free rows r.0 r.1) at

      same : (c : Bool) → b ≡ c → eqb (members v e) (bool_byte b) ≡ eqb (members v e) (bool_byte c)
      same c h = ap (λ (x : Bool). eqb (members v e) (bool_byte x)) h

      go : (d : Bool) → is_diagonal n (corners_of e) ≡ d → (f : Bool) → is_free rows (corners_of e).0 (corners_of e).1 ≡ f
          → eqb (members v e) (bool_byte b) ≡ fits n v rows e
      go false h f k = same false (test ∙ ap (λ (x : Bool). x && is_free rows (corners_of e).0 (corners_of e).1) h) ∙ sym (fits_not h)
      go true h true k = same true (test ∙ ap (λ (x : Bool). x && is_free rows (corners_of e).0 (corners_of e).1) h ∙ k) ∙ sym (fits_free h k)
      go true h false k = same false (test ∙ ap (λ (x : Bool). x && is_free rows (corners_of e).0 (corners_of e).1) h ∙ k) ∙ sym (fits_bound h k)

pub take_refused : (n : ℕ) (v row : Code) → is_object n row ≡ false → (Err NotACode, v) ≡ taken (polygon n) v row
take_refused n v row e =
    sym (ap (λ (b : Bool). elim b [ true ↦ (Ok tt, row) | false ↦ (Err NotACode, v) ]) e)

pub take_granted : (n : ℕ) (v w row : Code) → is_object n row ≡ true → w ≡ row → (Ok tt, w) ≡ taken (polygon n) v row
take_granted n v w row e q =
    ap (λ (x : Code). (Ok tt, x)) q
    ∙ sym (ap (λ (b : Bool). elim b [ true ↦ (Ok tt, row) | false ↦ (Err NotACode, v) ]) e)

-- a row of 35 bytes, judged over its rows
pub no_row : (n : ℕ) (row : Code) → (length row ≡ 35 → ⊥) → is_object n row ≡ false
no_row n row h = go (is_object n row) refl
  where
    go : (b : Bool) → is_object n row ≡ b → is_object n row ≡ false
    go true o = absurd (h ((object_decides n row).0 o).0.size)
    go false o = o

all_bytes_from : (row : Code) → ((i : ℕ) → get_or row i 0 < 256) → AllByRecursion (λ b. b < 256) row
all_bytes_from [] h = tt
all_bytes_from (b ∷ bs) h = (h 0, all_bytes_from bs (λ i. h (suc i)))

module _ (n : ℕ) (row : Code) (rows : List ℕ) (few : n ≤ 24) (long : length row ≡ 35) (bytes : (i : ℕ) → get_or row i 0 < 256)
    (tie : Tied n (members row) rows) where
  row_is : Row row
  row_is = record { size = long; bytes = all_bytes_from row bytes }

  pub judged : (b : Bool) → every 280 (fits n row rows) ≡ b → is_object n row ≡ b
  judged b e = object_in_row n row ((row_decides row).1 row_is) ∙ sym (fits_all n row rows few tie) ∙ e

  module _ (whole : every 280 (fits n row rows) ≡ true) where
    pub taken_triangulation : Triangulation n (members row)
    taken_triangulation = ((object_decides n row).0 (judged true whole)).1

    pub taken_rows : Settled n (members row) rows
    taken_rows = settled n (members row) rows (members_small row) taken_triangulation tie

    pub taken_code : code_of (set_of n rows) ≡ row
    taken_code = ap code_of taken_rows.same ∙ code_members row row_is
