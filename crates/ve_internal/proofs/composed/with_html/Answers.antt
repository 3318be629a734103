use Rattle.std.proofs.Common.{◌≡◌, List, ℕ, Option, String, Global, string_bytes, rules, ap, ◌∙◌}
use Rattle.std.specs.Prelude.{codes}
use Rattle.serde_json.specs.Data.{Data, Members, null, string, object, put}
use Rattle.serde_json.specs.Find.{get_member}
use Rattle.serde_json.specs.View.{view, members_view}
use Rattle.serde_json.specs.declared.value.Value.{the_lemmas}
use Rattle.serde_json.specs.declared.value.Value.TheVariants as value
use Rattle.serde_json.proofs.Views.{view-Object}
use Rattle.model_page.specs.DataMw.{members_of}
use Rattle.ve_internal.proofs.Composing.{put_again}
use Rattle.ve_internal.proofs.composed.with_html.Goals as goal

view-Null : view value.Null ≡ null
view-Null = search (rules, the_lemmas)

view-String : (s : String Global) → view (value.String s) ≡ string (string_bytes s)
view-String s = search (rules, the_lemmas)

-- null stands at the body's name while the body changes
body_changed : (html : List ℕ) (old between new body changed : Members) (n h b : Data) (before : Option Data)
    → n ≡ null → h ≡ string html → b ≡ object changed
    → between ≡ put (codes "body") n old → before ≡ get_member (codes "body") old → body ≡ members_of before
    → changed ≡ put (codes "html") h body → new ≡ put (codes "body") b between
    → new ≡ put (codes "body") (object (put (codes "html") (string html) (members_of (get_member (codes "body") old)))) old
body_changed html old between new body changed n h b before is_null is_html is_object e1 e2 e3 e4 e5 =
    e5 ∙ (rw (is_object, e4, is_html, e3, e2, e1) (put_again (codes "body") _ n old))

pub returns : goal.returns
returns c =
    body_changed c.args.html.now (members_view c.args.members.entries) _ _ _ _ _ _ _ _
    view-Null (view-String c.in_ok-html.html ∙ ap string c.in_ok-html.ensures.ok) (view-Object c.put_member-2.new.members)
    c.in_ok-old.ensures.put c.in_ok-old.ensures.before c.members_or_new-body.ensures
    c.in_ok-put_member.ensures.put c.in_ok-put_member-2.ensures.put
