use Rattle.referee_c.proofs.PlaceLaws.{words_put}
use Rattle.referee_c.proofs.put_place.Goals as goal

pub returns : goal.returns
returns c =
    words_put c.args.place.now c.args.side c.args.number c.bits.result c.bits-2.result c.bits-3.result c.args.x c.args.y c.args.z c.requires
    c.bits.ensures c.bits-2.ensures c.bits-3.ensures
