-- The promises of specs/Promises.antt.
use Rattle.states.proofs.States.{page-length}
use Rattle.packing.specs.Promises.{UnpacksPacked, PacksUnpacked}
use Rattle.packing.proofs.Packing.{page-packed, pack-unpack, unpack-pack}
use Rattle.packing.proofs.Valid.{valid-packing, valid-small}

pub unpacks-packed : UnpacksPacked
unpacks-packed s page v =
    (unpack-pack s page (valid-small v.rec s v.right v.valid) (page-length v.rec.model s page v.fits), page-packed s page)

pub packs-unpacked : PacksUnpacked
packs-unpacked xs v = pack-unpack xs (valid-packing v.rec xs v.valid)
