use Rattle.std.proofs.Common.{◌≡◌, ℕ, List, Result, sym, ◌∙◌, subst}
use Rattle.sheets.specs.Laws.{Accepting, Refusing}
use Rattle.sheets.specs.Reading.{Wanted, read_all}
use Rattle.sheets.specs.declared.fault.Fault.{Fault}
use Rattle.sheets.proofs.Accepts.{read_short, read_long}
use Rattle.sheets.proofs.Asks.{accepts}
use Rattle.sheets.proofs.Refuses.{refuses}
use Rattle.sheets.proofs.read.read_sheet.Goals as goal

-- what is read as defined keeps both laws
accepting : (bs : List ℕ) (r : Result Wanted Fault) → r ≡ read_all bs → Accepting bs r
accepting bs r e = subst (λ x. Accepting bs x) (sym e) (accepts bs)

refusing : (bs : List ℕ) (r : Result Wanted Fault) → r ≡ read_all bs → Refusing bs r
refusing bs r e = subst (λ x. Refusing bs x) (sym e) (refuses bs)

pub returns-then-bytes-gt-MOST_BYTES : goal.returns-then-bytes-gt-MOST_BYTES
returns-then-bytes-gt-MOST_BYTES c =
    let value = sym (read_long c.args.bytes.now c.if-bytes-gt-MOST_BYTES.true) in
    record { value = value; accepting = accepting c.args.bytes.now _ value; refusing = refusing c.args.bytes.now _ value }

pub returns : goal.returns
returns c =
    let value = c.read_lines.ensures ∙ sym (read_short c.args.bytes.now c.if-bytes-gt-MOST_BYTES.false) in
    record { value = value; accepting = accepting c.args.bytes.now _ value; refusing = refusing c.args.bytes.now _ value }
