-- The line that is printed of an act that was carried out.
use Rattle.std.specs.Prelude.{ℕ, List, [], ◌∷◌, ◌++◌, length, Ok, Err, codes, Result}
use Rattle.refusals.specs.Numbers.{number_of}
use Rattle.refusals.specs.declared.Refusal.{Refusal}
use Rattle.engine.specs.Runs.{Entry}
use Rattle.engine.specs.declared.act.Act.{Act}
use Rattle.engine.specs.declared.act.Act.TheVariants.{Next, Restart, Read, Save, Resume, Tally as TallyAct}
use Rattle.engine.specs.declared.act.Answer.{Answer}
use Rattle.engine.specs.declared.act.Answer.TheVariants.{Rank, End, Done, Counts}
use Rattle.lines.specs.Texts.{counts_room, counts_text, hex_room, hex_text, number_text, refused_text}

-- An act that has no answer of its own: the whole buffer that it wrote to, or that it was done.
abbrev pub done_text : Act → List ℕ → List ℕ
done_text Read bytes = hex_text bytes
done_text (Save job) bytes = hex_text bytes
done_text Next bytes = codes "done" ++ (10 ∷ [])
done_text Restart bytes = codes "done" ++ (10 ∷ [])
done_text (Resume job) bytes = codes "done" ++ (10 ∷ [])
done_text TallyAct bytes = codes "done" ++ (10 ∷ [])

-- The rank or the end, both numbers of the tally, or the number of the refusal.
abbrev pub answer_text : Act → List ℕ → Result Answer Refusal → List ℕ
answer_text act bytes (Ok (Rank rank)) = number_text rank
answer_text act bytes (Ok End) = codes "end" ++ (10 ∷ [])
answer_text act bytes (Ok Done) = done_text act bytes
answer_text act bytes (Ok (Counts t)) = counts_text t.objects t.steps
answer_text act bytes (Err refusal) = refused_text (number_of refusal)

abbrev pub entry_text : Entry → List ℕ
entry_text e = answer_text e.act e.bytes e.answer

-- The room that is enough for it: that of the whole buffer, or that of the longest other line, a tally's.
abbrev pub done_room : Act → List ℕ → ℕ
done_room Read bytes = hex_room (length bytes)
done_room (Save job) bytes = hex_room (length bytes)
done_room Next bytes = counts_room
done_room Restart bytes = counts_room
done_room (Resume job) bytes = counts_room
done_room TallyAct bytes = counts_room

abbrev pub answer_room : Act → List ℕ → Result Answer Refusal → ℕ
answer_room act bytes (Ok (Rank rank)) = counts_room
answer_room act bytes (Ok End) = counts_room
answer_room act bytes (Ok Done) = done_room act bytes
answer_room act bytes (Ok (Counts t)) = counts_room
answer_room act bytes (Err refusal) = counts_room

abbrev pub entry_room : Entry → ℕ
entry_room e = answer_room e.act e.bytes e.answer
