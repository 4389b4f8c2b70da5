use Rattle.commands.proofs.top.see_images.Goals as goal

pub returns : goal.returns
returns g c = g.met.D.Disk.reads_image
