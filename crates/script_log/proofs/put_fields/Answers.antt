-- `script_log::put_fields` meets its contract: each field is put where the last one ended.
use mathlib.Core.Path.{ap}
use Rattle.text.specs.Text.{decimal_text}
use Rattle.text.proofs.PutLaws.{put_as, put_then}
use Rattle.script_log.specs.Row.{log_text}
use Rattle.script_log.proofs.Laws.{fields-joined}
use Rattle.script_log.proofs.put_fields.Goals as goal

pub returns-clause-put : goal.returns-clause-put
unfolding log_text
returns-clause-put c =
    let number = put_then c.number.ensures.put c.byte.ensures.put in
    let answer = put_then (put_then number (put_as c.number-2.ensures.put (ap decimal_text c.from.ensures))) c.byte-2.ensures.put in
    let from = put_then (put_then answer c.put_from.ensures.put) c.byte-3.ensures.put in
    put_as (put_then (put_then from c.put_driven.ensures.put) c.put_note.ensures.put) (fields-joined _ _ _ _ _)
