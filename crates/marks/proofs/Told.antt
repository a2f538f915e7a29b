-- What opening gives is what the rules say of the row's bytes.
use Rattle.std.proofs.Common.{◌≡◌, ℕ, zero, suc, ◌+◌, ◌-◌, ◌*◌, ◌%◌, ◌<◌, ◌≤◌, Bool, true, false, ◌&&◌, eqb, ltb, leb, List, [], ◌∷◌, ◌++◌, length, get_or, take, drop, Ok, Err, sym, refl, ap, ◌∙◌, arith}
use Rattle.std.proofs.lemmas.List.{take_more, length-take-le, length-drop, get_or-take, get_or-drop, get_or_default}
use Rattle.std.proofs.lemmas.List.Sums.{AllPass-from_list_all, list_all-from_AllPass}
use Rattle.std.proofs.lemmas.Bool.{eq-eqb, ne_eqb, eqb-true, lt-ltb, ltb-true, le-leb, leb-true, and_from, and_parts, false_from_ne_true}
use Rattle.refusals.specs.declared.Refusal.TheVariants.{NotACode}
use Rattle.oracle.specs.Laws.{Object, Lawful}
use Rattle.oracle.specs.Setup.{Code, Setup}
use Rattle.marks.proofs.RoundTrip.{opening, granted, four_back, block_length, check_read, form_read, size_read, code_read}
use Rattle.marks.specs.Bytes.{four_at}
use Rattle.marks.specs.Layout.{weigh, check, block}
use Rattle.marks.specs.Opening.{size_in, job_in, code_in, filling_in, all_zero, checks, size_fits, well_formed, recognized, decoded, opened}
use Rattle.marks.specs.Told.{weighted_sum, HasCheck, HasForm, HasJob, HasObject, stated_size, stated_code, Told, Laid}

-- one more byte behind the bytes that are weighed
weigh_push : (i : ℕ) (bytes : List ℕ) (b : ℕ) → weigh i (bytes ++ b ∷ []) ≡ weigh i bytes + (i + length bytes + 1) * b
unfolding weigh
weigh_push i [] b =
    let place : i + 0 + 1 ≡ i + 1 = omega arith in
    let at : (i + 0 + 1) * b ≡ (i + 1) * b = ap (λ k. k * b) place in
    omega arith
weigh_push i (x ∷ xs) b =
    let place : i + 1 + length xs + 1 ≡ i + suc (length xs) + 1 = omega arith in
    let at : (i + 1 + length xs + 1) * b ≡ (i + suc (length xs) + 1) * b = ap (λ k. k * b) place in
    let rest = weigh_push (i + 1) xs b in
    omega arith

weigh_weighted : (row : List ℕ) (n : ℕ) → n ≤ length row → weigh 0 (take n row) ≡ weighted_sum row n
unfolding weigh weighted_sum
weigh_weighted row zero h = refl
weigh_weighted row (suc n) h =
    let before : weigh 0 (take n row) ≡ weighted_sum row n = weigh_weighted row n (omega arith) in
    let more : take (n + 1) row ≡ take n row ++ get_or row n 0 ∷ [] = take_more row n 0 (omega arith) in
    let front : length (take n row) ≡ n = length-take-le n row (omega arith) in
    let place : 0 + length (take n row) + 1 ≡ n + 1 = omega arith in
    let at : (0 + length (take n row) + 1) * get_or row n 0 ≡ (n + 1) * get_or row n 0 = ap (λ k. k * get_or row n 0) place in
    let pushed = weigh_push 0 (take n row) (get_or row n 0) in
    let whole : weigh 0 (take (n + 1) row) ≡ weigh 0 (take n row ++ get_or row n 0 ∷ []) = ap (weigh 0) more in
    let one : suc n ≡ n + 1 = omega arith in
    ap (λ k. weigh 0 (take k row)) one ∙ omega arith

module _ (row : List ℕ) (whole : length row ≡ 512) where
  summed : check (take 508 row) ≡ weighted_sum row 508 % 65521
  summed = ap (λ n. n % 65521) (weigh_weighted row 508 (omega arith))

  check_passes : HasCheck row → checks row ≡ true
  check_passes good = let sum = summed in eq-eqb (four_at row 508) (check (take 508 row)) (omega arith)

  check_from : checks row ≡ true → HasCheck row
  check_from passed = let sum = summed in let e = eqb-true (four_at row 508) (check (take 508 row)) passed in omega arith

  check_fails : (¬ HasCheck row) → checks row ≡ false
  check_fails bad = false_from_ne_true (checks row) (λ passed. bad (check_from passed))

  size_is : stated_size row ≡ size_in row
  size_is = omega arith

  filling_length : stated_size row ≤ 480 → length (filling_in row) ≡ 508 - (8 + stated_size row)
  filling_length limit = let size = size_is in
      let behind = length-drop (8 + size_in row) row in
      length-take-le (508 - (8 + size_in row)) (drop (8 + size_in row) row) (omega arith) ∙ omega arith

  filling_at : (k : ℕ) → k < 508 - (8 + stated_size row) → get_or (filling_in row) k 0 ≡ get_or row (8 + stated_size row + k) 0
  filling_at k h = let size = size_is in
      get_or-take (508 - (8 + size_in row)) (drop (8 + size_in row) row) k 0 (omega arith)
      ∙ get_or-drop (8 + size_in row) row k 0
      ∙ ap (λ n. get_or row (8 + n + k) 0) (sym size)

  filling_passes : HasForm row → all_zero (filling_in row) ≡ true
  filling_passes form =
      let n = filling_length form.most_code in
      list_all-from_AllPass (λ b. eqb b 0) (filling_in row) (λ k d h.
      eq-eqb (get_or (filling_in row) k d) 0
      (get_or_default (filling_in row) k d 0 h ∙ filling_at k (omega arith) ∙ form.filling (8 + stated_size row + k) (omega arith) (omega arith)))

  form_passes : HasForm row → well_formed 1 row ≡ true
  form_passes form =
      let size = size_is in
      let low = form.some_code in
      let high = form.most_code in
      and_from (eqb (get_or row 0 0) 1) _ (eq-eqb _ _ form.first)
      (and_from (eqb (get_or row 1 0) 0) _ (eq-eqb _ _ form.second)
      (and_from (size_fits (size_in row)) (all_zero (filling_in row))
      (and_from (ltb 0 (size_in row)) (leb (size_in row) 480) (lt-ltb 0 (size_in row) (omega arith)) (le-leb (size_in row) 480 (omega arith)))
      (filling_passes form)))

  form_from : well_formed 1 row ≡ true → HasForm row
  form_from passed =
      let size = size_is in
      let one = and_parts (eqb (get_or row 0 0) 1) (eqb (get_or row 1 0) 0 && (size_fits (size_in row) && all_zero (filling_in row))) passed in
      let two = and_parts (eqb (get_or row 1 0) 0) (size_fits (size_in row) && all_zero (filling_in row)) one.1 in
      let three = and_parts (size_fits (size_in row)) (all_zero (filling_in row)) two.1 in
      let fits = and_parts (ltb 0 (size_in row)) (leb (size_in row) 480) three.0 in
      let low = ltb-true 0 (size_in row) fits.0 in
      let high = leb-true (size_in row) 480 fits.1 in
      let limit : stated_size row ≤ 480 = omega arith in
      let n = filling_length limit in
      record {
        first = eqb-true _ _ one.0;
        second = eqb-true _ _ two.0;
        some_code = omega arith;
        most_code = limit;
        filling = λ i above below.
            let back : 8 + stated_size row + (i - (8 + stated_size row)) ≡ i = omega arith in
            ap (λ j. get_or row j 0) (sym back)
            ∙ sym (filling_at (i - (8 + stated_size row)) (omega arith))
            ∙ eqb-true _ _ (AllPass-from_list_all (λ b. eqb b 0) (filling_in row) three.1 (i - (8 + stated_size row)) 0 (omega arith));
      }

  form_fails : (¬ HasForm row) → well_formed 1 row ≡ false
  form_fails bad = false_from_ne_true (well_formed 1 row) (λ passed. bad (form_from passed))

  code_is : code_in row ≡ stated_code row
  code_is = let size = size_is in ap (λ n. take n (drop 8 row)) (omega arith)

-- a code that is not recognized
unknown : (a b : Bool) (v : Code) → (a ≡ true → b ≡ true → ⊥) → recognized a b v ≡ Err NotACode
unknown false b v other = refl
unknown true false v other = refl
unknown true true v other = absurd (other refl refl)

module _ (job : ℕ) (s : Setup) (row : List ℕ) where
  same_job : HasJob job row → eqb (job_in row) job ≡ true
  same_job e = eq-eqb (job_in row) job (omega arith)

  other_job : (¬ HasJob job row) → eqb (job_in row) job ≡ false
  other_job other = ne_eqb (job_in row) job (λ e. other (omega arith))

  no_object : (whole : length row ≡ 512) → (¬ HasObject s row) → decoded s row (Ok (size_in row)) ≡ Err NotACode
  no_object whole other =
      unknown (eqb (size_in row) s.size) (s.object (code_in row)) (code_in row) (λ same known. other (record {
        size = size_is row whole ∙ eqb-true _ _ same;
        object = ap s.object (sym (code_is row whole)) ∙ known;
      }))

  pub told : Told job s row (opened job s row)
  told = record {
    other_length = λ other. opening job s row false _ _ _ (ne_eqb _ _ other) refl refl refl;
    other_check = λ whole other. opening job s row true false _ _ (eq-eqb _ _ whole) (check_fails row whole other) refl refl;
    other_form = λ whole sum other.
        opening job s row true true false _ (eq-eqb _ _ whole) (check_passes row whole sum) (form_fails row whole other) refl;
    other_job = λ whole sum form other.
        opening job s row true true true false (eq-eqb _ _ whole) (check_passes row whole sum) (form_passes row whole form) (other_job other);
    no_object = λ whole sum form same other.
        opening job s row true true true true (eq-eqb _ _ whole) (check_passes row whole sum) (form_passes row whole form) (same_job same)
        ∙ no_object whole other;
    granted = λ whole sum form same object.
        granted job s row (stated_code row) (eq-eqb _ _ whole) (check_passes row whole sum) (form_passes row whole form) (same_job same)
        (eq-eqb _ _ (sym (size_is row whole) ∙ object.size))
        (code_is row whole)
        object.object;
  }

pub laid : (s : Setup) → Lawful s → (v : Code) → Object s v → (job : ℕ) → job < 4294967296 → Laid job s v (block job s v)
laid s law v object job fits =
    let row = block job s v in
    let whole : length (block job s v) ≡ 512 = block_length s law v object job fits in
    let same = four_back job fits in
    record {
      whole = whole;
      check = check_from row whole (check_read s law v object job fits);
      form = form_from row whole (form_read s law v object job fits);
      job_number = omega arith;
      size = size_is row whole ∙ size_read s law v object job fits;
      code = sym (code_is row whole) ∙ code_read s law v object job fits;
    }
