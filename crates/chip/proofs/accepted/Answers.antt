-- `chip::accepted` meets its contract.
use mathlib.Core.Path.{refl}
use native.Mathlib.Omega.{arith}
use lib.ListN.{length}
use Rattle.models.specs.Models.{model_of}
use Rattle.commands.specs.Commands.{traits_of}
use Rattle.states.specs.States.{chip_of}
use Rattle.chip.specs.Frames.{accepted_of}
use Rattle.chip.proofs.Ready.{at-command, room_for, at-most-3}
use Rattle.chip.proofs.accepted.Goals as goal

pub read_status-requires : goal.read_status-requires
unfolding traits_of
read_status-requires c =
    let p = c.requires in
    let e = c.in-ReadStatus.is in
    (omega (arith, p.level), room_for p e)

pub read_config-requires : goal.read_config-requires
unfolding traits_of
read_config-requires c =
    let p = c.requires in
    let e = c.in-ReadConfig.is in
    room_for p e

pub write_status-requires : goal.write_status-requires
unfolding traits_of
write_status-requires c =
    let p = c.requires in
    let a = c.args in
    let e = c.in-WriteStatus.is in
    (p.page-data, (room_for p e).long, at-most-3 (model_of a.rec.model).register (length a.bytes.now) (p.written e))

pub read_from-requires : goal.read_from-requires
unfolding traits_of
read_from-requires c =
    let p = c.requires in
    let e = c.in-Read.is in
    (p.inside, room_for p e)

pub read_from-requires-in-FastRead : goal.read_from-requires-in-FastRead
unfolding traits_of
read_from-requires-in-FastRead c =
    let p = c.requires in
    let e = c.in-FastRead.is in
    (p.inside, room_for p e)

pub program_page-requires : goal.program_page-requires
unfolding traits_of
program_page-requires c =
    let p = c.requires in
    let e = c.in-Program.is in
    (p.page-data, (room_for p e).long)

pub read_id-requires : goal.read_id-requires
unfolding traits_of
read_id-requires c =
    let p = c.requires in
    let e = c.in-ReadId.is in
    room_for p e

pub wake-requires : goal.wake-requires
unfolding traits_of
wake-requires c =
    let p = c.requires in
    let e = c.in-Wake.is in
    room_for p e

pub read_maker-requires : goal.read_maker-requires
unfolding traits_of
read_maker-requires c =
    let p = c.requires in
    let e = c.in-ReadMaker.is in
    room_for p e

pub read_sfdp-requires : goal.read_sfdp-requires
unfolding traits_of
read_sfdp-requires c =
    let p = c.requires in
    let e = c.in-ReadSfdp.is in
    room_for p e

pub returns-in-WriteEnable : goal.returns-in-WriteEnable
unfolding accepted_of
returns-in-WriteEnable c =
    let a = c.args in
    at-command a.rec (chip_of a.st a.page.now a.array.now) a.at a.bytes.now a.out.now c.in-WriteEnable.is
    (record { reply = c.write_enable.ensures; page-is = refl; out = refl })

pub returns-in-WriteDisable : goal.returns-in-WriteDisable
unfolding accepted_of
returns-in-WriteDisable c =
    let a = c.args in
    at-command a.rec (chip_of a.st a.page.now a.array.now) a.at a.bytes.now a.out.now c.in-WriteDisable.is
    (record { reply = c.write_disable.ensures; page-is = refl; out = refl })

pub returns-in-ReadStatus : goal.returns-in-ReadStatus
unfolding accepted_of
returns-in-ReadStatus c =
    let a = c.args in
    at-command a.rec (chip_of a.st a.page.now a.array.now) a.at a.bytes.now a.out.now c.in-ReadStatus.is
    (record { reply = c.read_status.ensures.reply; page-is = refl; out = c.read_status.ensures.out })

pub returns-in-ReadConfig : goal.returns-in-ReadConfig
unfolding accepted_of
returns-in-ReadConfig c =
    let a = c.args in
    at-command a.rec (chip_of a.st a.page.now a.array.now) a.at a.bytes.now a.out.now c.in-ReadConfig.is
    (record { reply = c.read_config.ensures.reply; page-is = refl; out = c.read_config.ensures.out })

pub returns-in-WriteStatus : goal.returns-in-WriteStatus
unfolding accepted_of
returns-in-WriteStatus c =
    let a = c.args in
    at-command a.rec (chip_of a.st a.page.now a.array.now) a.at a.bytes.now a.out.now c.in-WriteStatus.is
    (record { reply = c.write_status.ensures.reply; page-is = c.write_status.ensures.page-is; out = refl })

pub returns-in-Read : goal.returns-in-Read
unfolding accepted_of
returns-in-Read c =
    let a = c.args in
    at-command a.rec (chip_of a.st a.page.now a.array.now) a.at a.bytes.now a.out.now c.in-Read.is
    (record { reply = c.read_from.ensures.reply; page-is = refl; out = c.read_from.ensures.out })

pub returns-in-FastRead : goal.returns-in-FastRead
unfolding accepted_of
returns-in-FastRead c =
    let a = c.args in
    at-command a.rec (chip_of a.st a.page.now a.array.now) a.at a.bytes.now a.out.now c.in-FastRead.is
    (record { reply = c.read_from-in-FastRead.ensures.reply; page-is = refl; out = c.read_from-in-FastRead.ensures.out })

pub returns-in-EraseSector : goal.returns-in-EraseSector
unfolding accepted_of
returns-in-EraseSector c =
    let a = c.args in
    at-command a.rec (chip_of a.st a.page.now a.array.now) a.at a.bytes.now a.out.now c.in-EraseSector.is
    (record { reply = c.erase.ensures; page-is = refl; out = refl })

pub returns-in-EraseHalf : goal.returns-in-EraseHalf
unfolding accepted_of
returns-in-EraseHalf c =
    let a = c.args in
    at-command a.rec (chip_of a.st a.page.now a.array.now) a.at a.bytes.now a.out.now c.in-EraseHalf.is
    (record { reply = c.erase-in-EraseHalf.ensures; page-is = refl; out = refl })

pub returns-in-EraseBlock : goal.returns-in-EraseBlock
unfolding accepted_of
returns-in-EraseBlock c =
    let a = c.args in
    at-command a.rec (chip_of a.st a.page.now a.array.now) a.at a.bytes.now a.out.now c.in-EraseBlock.is
    (record { reply = c.erase-in-EraseBlock.ensures; page-is = refl; out = refl })

pub returns-in-EraseChip : goal.returns-in-EraseChip
unfolding accepted_of
returns-in-EraseChip c =
    let a = c.args in
    at-command a.rec (chip_of a.st a.page.now a.array.now) a.at a.bytes.now a.out.now c.in-EraseChip.is
    (record { reply = c.erase-in-EraseChip.ensures; page-is = refl; out = refl })

pub returns-in-Program : goal.returns-in-Program
unfolding accepted_of
returns-in-Program c =
    let a = c.args in
    at-command a.rec (chip_of a.st a.page.now a.array.now) a.at a.bytes.now a.out.now c.in-Program.is
    (record { reply = c.program_page.ensures.reply; page-is = c.program_page.ensures.page-is; out = refl })

pub returns-in-ReadId : goal.returns-in-ReadId
unfolding accepted_of
returns-in-ReadId c =
    let a = c.args in
    at-command a.rec (chip_of a.st a.page.now a.array.now) a.at a.bytes.now a.out.now c.in-ReadId.is
    (record { reply = c.read_id.ensures.reply; page-is = refl; out = c.read_id.ensures.out })

pub returns-in-Wake : goal.returns-in-Wake
unfolding accepted_of
returns-in-Wake c =
    let a = c.args in
    at-command a.rec (chip_of a.st a.page.now a.array.now) a.at a.bytes.now a.out.now c.in-Wake.is
    (record { reply = c.wake.ensures.reply; page-is = refl; out = c.wake.ensures.out })

pub returns-in-ReadMaker : goal.returns-in-ReadMaker
unfolding accepted_of
returns-in-ReadMaker c =
    let a = c.args in
    at-command a.rec (chip_of a.st a.page.now a.array.now) a.at a.bytes.now a.out.now c.in-ReadMaker.is
    (record { reply = c.read_maker.ensures.reply; page-is = refl; out = c.read_maker.ensures.out })

pub returns-in-Sleep : goal.returns-in-Sleep
unfolding accepted_of
returns-in-Sleep c =
    let a = c.args in
    at-command a.rec (chip_of a.st a.page.now a.array.now) a.at a.bytes.now a.out.now c.in-Sleep.is
    (record { reply = c.sleep.ensures; page-is = refl; out = refl })

pub returns-in-Unknown : goal.returns-in-Unknown
unfolding accepted_of
returns-in-Unknown c =
    let a = c.args in
    at-command a.rec (chip_of a.st a.page.now a.array.now) a.at a.bytes.now a.out.now c.in-Unknown.is
    (record { reply = c.quiet.ensures; page-is = refl; out = refl })

pub returns-in-Withdrawn : goal.returns-in-Withdrawn
unfolding accepted_of
returns-in-Withdrawn c =
    let a = c.args in
    at-command a.rec (chip_of a.st a.page.now a.array.now) a.at a.bytes.now a.out.now c.in-Withdrawn.is
    (record { reply = c.quiet-in-Withdrawn.ensures; page-is = refl; out = refl })

pub returns-in-ReadSfdp : goal.returns-in-ReadSfdp
unfolding accepted_of
returns-in-ReadSfdp c =
    let a = c.args in
    at-command a.rec (chip_of a.st a.page.now a.array.now) a.at a.bytes.now a.out.now c.in-ReadSfdp.is
    (record { reply = c.read_sfdp.ensures.reply; page-is = refl; out = c.read_sfdp.ensures.out })
