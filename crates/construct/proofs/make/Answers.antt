use Rattle.construct.proofs.Sounds.{sound_made}
use Rattle.construct.proofs.make.Goals as goal

pub returns : goal.returns
returns c =
    let told = c.first_flag.ensures in
    record { answer = told.answer; all = told.all; sound = sound_made c.args.code c.args.arg.now }
