-- Worked scripts by computation: groups, references, and a page in MediaWiki's markup.
use Rattle.std.specs.Prelude.{[], ◌∷◌, codes, refl}
use Rattle.std.specs.Fmt.{digits}
use Rattle.std.specs.Str.{is_utf8}
use Rattle.model_page.proofs.OnLiterals.{page_on_literals}
use Rattle.model_world.proofs.Scripts.{Answered}

-- elements with one `about` are one leaf
group : Answered
    ((codes "{\"do\":\"open\",\"page\":\"<p>a</p><div about=\\\"#mwt1\\\" typeof=\\\"mw:Transclusion\\\" data-mw=\\\"{}\\\">b</div>\\n<p about=\\\"#mwt1\\\">c</p>\"}", codes "ok 7")
    ∷ (codes "{\"do\":\"tree\"}", codes "ok (root (p 1) (trans_block) (internal_list))")
    ∷ (codes "{\"do\":\"data\",\"from\":3,\"to\":5}", codes "ok [{\"open\":\"trans_block\",\"origin\":1,\"raw\":\"<div about=\\\"#mwt1\\\" typeof=\\\"mw:Transclusion\\\" data-mw=\\\"{}\\\">b</div>\\n<p about=\\\"#mwt1\\\">c</p>\"},{\"close\":\"trans_block\"}]")
    ∷ [])
unfolding page_on_literals is_utf8 digits
group = refl

-- a reuse takes over the body
body_taken_over : Answered
    ((codes "{\"do\":\"open\",\"page\":\"<p>a<sup typeof=\\\"mw:Extension/ref\\\" data-mw='{\\\"name\\\":\\\"ref\\\",\\\"attrs\\\":{\\\"name\\\":\\\"n\\\"},\\\"body\\\":{\\\"html\\\":\\\"x\\\"}}'>[1]</sup></p><p>b<sup typeof=\\\"mw:Extension/ref\\\" data-mw='{\\\"name\\\":\\\"ref\\\",\\\"attrs\\\":{\\\"name\\\":\\\"n\\\"}}'>[1]</sup></p>\"}", codes "ok 17")
    ∷ (codes "{\"do\":\"refs\"}", codes "ok [[2,\"\",\"n:n\",1,true,11],[7,\"\",\"n:n\",1,false,11]]")
    ∷ (codes "{\"do\":\"text\",\"at\":11,\"text\":\"z\"}", codes "no place 11")
    ∷ (codes "{\"do\":\"remove\",\"from\":0,\"to\":5}", codes "ok 12")
    ∷ (codes "{\"do\":\"refs\"}", codes "ok [[2,\"\",\"n:n\",1,true,6]]")
    ∷ (codes "{\"do\":\"html\"}", codes "ok \"<p>b<sup typeof=\\\"mw:Extension/ref\\\" data-mw=\\\"{&quot;attrs&quot;:{&quot;name&quot;:&quot;n&quot;},&quot;body&quot;:{&quot;html&quot;:&quot;x&quot;},&quot;name&quot;:&quot;ref&quot;}\\\">[1]</sup></p>\"")
    ∷ [])
unfolding page_on_literals is_utf8 digits
body_taken_over = refl

-- an edited body is written with its carrier, and the other paragraph keeps its bytes
edited_body : Answered
    ((codes "{\"do\":\"open\",\"page\":\"<p>a<sup typeof=\\\"mw:Extension/ref\\\" data-mw='{\\\"name\\\":\\\"ref\\\",\\\"attrs\\\":{\\\"name\\\":\\\"n\\\"},\\\"body\\\":{\\\"html\\\":\\\"x\\\"}}'>[1]</sup></p><p>b<sup typeof=\\\"mw:Extension/ref\\\" data-mw='{\\\"name\\\":\\\"ref\\\",\\\"attrs\\\":{\\\"name\\\":\\\"n\\\"}}'>[1]</sup></p>\"}", codes "ok 17")
    ∷ (codes "{\"do\":\"text\",\"at\":14,\"text\":\"y\"}", codes "ok 18")
    ∷ (codes "{\"do\":\"html\"}", codes "ok \"<p>a<sup typeof=\\\"mw:Extension/ref\\\" data-mw=\\\"{&quot;attrs&quot;:{&quot;name&quot;:&quot;n&quot;},&quot;body&quot;:{&quot;html&quot;:&quot;xy&quot;},&quot;name&quot;:&quot;ref&quot;}\\\">[1]</sup></p><p>b<sup typeof=\\\"mw:Extension/ref\\\" data-mw='{\\\"name\\\":\\\"ref\\\",\\\"attrs\\\":{\\\"name\\\":\\\"n\\\"}}'>[1]</sup></p>\"")
    ∷ [])
unfolding page_on_literals is_utf8 digits
edited_body = refl

-- a page in MediaWiki's markup: every byte but the typed ones is as it was
wiki_page : Answered
    ((codes "{\"do\":\"open\",\"page\":\"<section data-mw-section-id=\\\"0\\\" id=\\\"mwAQ\\\"><p id=\\\"mwAg\\\">See <a rel=\\\"mw:WikiLink\\\" href=\\\"./Cat\\\" title=\\\"Cat\\\" id=\\\"mwAw\\\">Cat</a>.<sup about=\\\"#mwt2\\\" class=\\\"mw-ref reference\\\" id=\\\"cite_ref-1\\\" rel=\\\"dc:references\\\" typeof=\\\"mw:Extension/ref\\\" data-mw='{\\\"name\\\":\\\"ref\\\",\\\"attrs\\\":{},\\\"body\\\":{\\\"id\\\":\\\"mw-reference-text-cite_note-1\\\"}}'><a href=\\\"./P#cite_note-1\\\"><span class=\\\"mw-reflink-text\\\">[1]</span></a></sup></p>\\n<div about=\\\"#mwt1\\\" typeof=\\\"mw:Transclusion\\\" data-mw='{\\\"parts\\\":[{\\\"template\\\":{\\\"target\\\":{\\\"wt\\\":\\\"T\\\",\\\"href\\\":\\\"./Template:T\\\"},\\\"params\\\":{},\\\"i\\\":0}}]}'>T</div><style about=\\\"#mwt1\\\" typeof=\\\"mw:Extension/templatestyles\\\">.a>b{}</style>\\n<link rel=\\\"mw:PageProp/Category\\\" href=\\\"./Category:X\\\" id=\\\"mwBA\\\"/></section>\"}", codes "ok 20")
    ∷ (codes "{\"do\":\"text\",\"at\":2,\"text\":\"now \"}", codes "ok 24")
    ∷ (codes "{\"do\":\"html\"}", codes "ok \"<section data-mw-section-id=\\\"0\\\" id=\\\"mwAQ\\\"><p id=\\\"mwAg\\\">now See <a rel=\\\"mw:WikiLink\\\" href=\\\"./Cat\\\" title=\\\"Cat\\\" id=\\\"mwAw\\\">Cat</a>.<sup about=\\\"#mwt2\\\" class=\\\"mw-ref reference\\\" id=\\\"cite_ref-1\\\" rel=\\\"dc:references\\\" typeof=\\\"mw:Extension/ref\\\" data-mw='{\\\"name\\\":\\\"ref\\\",\\\"attrs\\\":{},\\\"body\\\":{\\\"id\\\":\\\"mw-reference-text-cite_note-1\\\"}}'><a href=\\\"./P#cite_note-1\\\"><span class=\\\"mw-reflink-text\\\">[1]</span></a></sup></p>\\n<div about=\\\"#mwt1\\\" typeof=\\\"mw:Transclusion\\\" data-mw='{\\\"parts\\\":[{\\\"template\\\":{\\\"target\\\":{\\\"wt\\\":\\\"T\\\",\\\"href\\\":\\\"./Template:T\\\"},\\\"params\\\":{},\\\"i\\\":0}}]}'>T</div><style about=\\\"#mwt1\\\" typeof=\\\"mw:Extension/templatestyles\\\">.a>b{}</style>\\n<link rel=\\\"mw:PageProp/Category\\\" href=\\\"./Category:X\\\" id=\\\"mwBA\\\"/></section>\"")
    ∷ [])
unfolding page_on_literals is_utf8 digits
wiki_page = refl
