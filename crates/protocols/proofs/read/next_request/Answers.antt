use Rattle.std.proofs.Common.{◌≡◌, Some, None, rules}
use Rattle.protocols.specs.Reading.{parted, request_at}
use Rattle.protocols.specs.Views.{request_of}
use Rattle.protocols.proofs.Firsts.{begins_cut, begins_bad, begins_good}
use Rattle.protocols.proofs.read.next_request.Goals as goal

pub returns-in_err-line : goal.returns-in_err-line
returns-in_err-line c =
    let none : c.from_residual.result ≡ None = search rules in
    let cut : parted 10 c.args.bytes.now ≡ None = search rules in
    rw none (begins_cut c.args.bytes.now cut)

pub returns-in_err-read_request : goal.returns-in_err-read_request
returns-in_err-read_request c =
    let none : c.from_residual-in_err-read_request.result ≡ None = search rules in
    let line : parted 10 c.args.bytes.now ≡ Some (c.in_ok-line.line.now, c.in_ok-line.behind.now) = search rules in
    let bad : request_at c.in_ok-line.line.now ≡ None = search rules in
    rw none (begins_bad c.args.bytes.now c.in_ok-line.line.now c.in_ok-line.behind.now line bad)

pub returns : goal.returns
returns c =
    let line : parted 10 c.args.bytes.now ≡ Some (c.in_ok-line.line.now, c.in_ok-line.behind.now) = search rules in
    let good : request_at c.in_ok-line.line.now ≡ Some (request_of c.in_ok-read_request.field-0) = search rules in
    begins_good c.args.bytes.now c.in_ok-line.line.now c.in_ok-line.behind.now (request_of c.in_ok-read_request.field-0) line good
