use Rattle.std.proofs.Common.{refl}
use Rattle.ve_html_scan.proofs.NameOrder.{put}
use Rattle.ve_html_scan.proofs.attr_names.put_name.Goals as goal

pub returns : goal.returns
returns c = put c.args.names.now c.rotate_right.new.self _ c.args.len c.args.place c.args.name c.requires.place c.requires.room refl c.rotate_right.ensures.after
