-- What a mirror tells.
use Rattle.std.specs.Prelude.{ℕ, false, map, List}
use Rattle.outside.specs.declared.disk.Disk.{Ghosts}
use Rattle.mirror_devices.specs.declared.mirror.Mirror.{Mirror}
use Rattle.mirror_devices.specs.Mirrors.{told_of, first_of, IsImageOf}

-- what a mirror tells, by what its disks tell: it reads as all of them do, a crash may leave what it may leave of one of them, and its room is the
-- first's
abbrev pub mirrored : {D : Type 0} (device : Ghosts D) → Ghosts (Mirror D device)
mirrored device = record {
  content = λ m. told_of m.apart (map device.content m.disks.items);
  size = λ m. first_of (map device.size m.disks.items);
  limit = λ m. first_of (map device.limit m.disks.items);
  count = λ m. m.refused;
  images = λ m. IsImageOf device.images m.disks.items;
  tells_past = λ m. false;
  moment = λ m. 0;
  images_since = λ m t c. ⊥;
}
