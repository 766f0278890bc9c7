use Rattle.std.proofs.Common.{arith, option_copied}
use Rattle.rv_picture.proofs.OnePicture.{one_picture}
use Rattle.rv_picture.proofs.UnderWay.{window_end}
use Rattle.rv_picture.proofs.written.write_picture.Goals as goal

pub write_recording-requires : goal.write_recording-requires
write_recording-requires g c = omega (arith, window_end c.in-Ok.ensures.recording, c.is_exhausted.ensures.within)

-- whatever was written
pub returns-in_default-clause-one_picture : goal.returns-in_default-clause-one_picture
returns-in_default-clause-one_picture g c =
    one_picture c.args.arrivals.now c.args.view (option_copied c.args.marks) c.args.listing.now

pub returns-in-Ok-write_recording-clause-one_picture : goal.returns-in-Ok-write_recording-clause-one_picture
returns-in-Ok-write_recording-clause-one_picture g c =
    one_picture c.args.arrivals.now c.args.view (option_copied c.args.marks) c.args.listing.now

pub returns-clause-one_picture : goal.returns-clause-one_picture
returns-clause-one_picture g c =
    one_picture c.args.arrivals.now c.args.view (option_copied c.args.marks) c.args.listing.now
