-- Lists of acts carried out by the plain census, one after another.
use Rattle.std.specs.Prelude.{◌≡◌, ℕ, List, [], ◌∷◌, vec_items, Err, Result}
use Rattle.refusals.specs.declared.Refusal.{Refusal}
use Rattle.oracle.specs.Setup.{Setup}
use Rattle.engine.specs.Acts.{plain_act}
use Rattle.engine.specs.View.{View}
use Rattle.engine.specs.declared.act.Act.{Act}
use Rattle.engine.specs.declared.act.Act.TheVariants.{Resume}
use Rattle.engine.specs.declared.act.Answer.{Answer}
use Rattle.engine.specs.declared.call.Call.{Call}
use Rattle.engine.specs.declared.tally.Tally.{Tally}

-- An act to be carried out, with the bytes of its buffer.
pub record Order : Type 0 where
  pub act : Act
  pub bytes : List ℕ

-- An act that was carried out: the bytes of its buffer, its answer, and the tally after it.
pub record Entry : Type 0 where
  pub act : Act
  pub bytes : List ℕ
  pub answer : Result Answer Refusal
  pub tally : Tally

-- No granted resume: a resume under any job number was refused.
abbrev pub Ungranted : Entry → Type 0
Ungranted e =
    (job : ℕ) → e.act ≡ Resume job → (refusal : Refusal) × (e.answer ≡ Err refusal)

abbrev pub order_of : Call → Order
order_of call = record { act = call.act; bytes = vec_items call.bytes }

abbrev pub entry_of : Call → Entry
entry_of call =
    record { act = call.act; bytes = vec_items call.bytes; answer = call.answer; tally = call.tally }

-- What is written down of an act, and the view after it.
abbrev pub noted : Act → Result Answer Refusal × List ℕ × View → Entry
noted act r = record { act = act; bytes = r.1; answer = r.0; tally = r.2.tally }

unfoldable pub plain_run : Setup → View → List Order → List Entry × View
plain_run s v [] = ([], v)
plain_run s v (o ∷ os) =
    let r = plain_act s v o.act o.bytes in
    let rest = plain_run s r.2 os in
    (noted o.act r ∷ rest.0, rest.1)
