use Rattle.std.proofs.Common.{sym, subst, ◌∙◌, arith}
use Rattle.std.proofs.lemmas.Result.{err_from_is_err_and}
use Rattle.ve_read.specs.Pages.{IsRefusal}
use Rattle.ve_read.proofs.PageLemmas.{Found, sized_page, page_is, opened_at}
use Rattle.ve_read.proofs.pages.page.Goals as goal

pub returns-in_err-check_size-clause-refused : goal.returns-in_err-check_size-clause-refused
returns-in_err-check_size-clause-refused c =
    let p = err_from_is_err_and c.from_residual-in_err-check_size.result c.from_residual-in_err-check_size.ensures.1 in
    let found : Found c.args.text.now c.in-Ok.body c.range.result.now c.in_ok-reader.reader c.in_ok-parts.parts.list.items c.in_ok-parts.parts.values = record {
      short = omega (arith, c.if-text-gt-MAX_PAGE.false);
      body = c.in-Ok.ensures.read;
      source = c.range.ensures.value;
      read = c.in_ok-reader.ensures.ok;
      items = c.in_ok-parts.ensures.items;
      filled = c.in_ok-parts.ensures.values;
    } in
    let sized = sized_page c.args.text.now c.in-Ok.body c.range.result.now c.in_ok-reader.reader c.in_ok-parts.parts.list.items c.in_ok-parts.parts.values found in
    let o = opened_at c.args.text.now c.in-Ok.body.from c.in-Ok.body.to in
    rw (p.1, p.2)
    (subst (IsRefusal c.in_err-check_size.field-0.0) (sym sized.0) (c.in_err-check_size.ensures o (sized.1 ∙ sym c.len.ensures) (sized.2 ∙ sym c.len-2.ensures.count)))

pub returns-clause-read : goal.returns-clause-read
returns-clause-read c =
    let found : Found c.args.text.now c.in-Ok.body c.range.result.now c.in_ok-reader.reader c.in_ok-parts.parts.list.items c.in_ok-parts.parts.values = record {
      short = omega (arith, c.if-text-gt-MAX_PAGE.false);
      body = c.in-Ok.ensures.read;
      source = c.range.ensures.value;
      read = c.in_ok-reader.ensures.ok;
      items = c.in_ok-parts.ensures.items;
      filled = c.in_ok-parts.ensures.values;
    } in
    let sized = sized_page c.args.text.now c.in-Ok.body c.range.result.now c.in_ok-reader.reader c.in_ok-parts.parts.list.items c.in_ok-parts.parts.values found in
    let o = opened_at c.args.text.now c.in-Ok.body.from c.in-Ok.body.to in
    (page_is c.args.text.now c.range.result.now c.in_ok-reader.reader
    (record { list = c.in_ok-parts.parts.list; values = c.in_ok-parts.parts.values; rows = c.in_ok-rows.rows; body = c.in-Ok.body }) c.in_ok-parts.parts.rows found
    c.pieces_are_even.ensures.insides c.in_ok-parts.ensures.cites c.in_ok-parts.ensures.rows c.in_ok-rows.ensures
    (c.in_ok-check_size.ensures o (sized.1 ∙ sym c.len.ensures) (sized.2 ∙ sym c.len-2.ensures.count))).0

pub returns-clause-places : goal.returns-clause-places
returns-clause-places c =
    let found : Found c.args.text.now c.in-Ok.body c.range.result.now c.in_ok-reader.reader c.in_ok-parts.parts.list.items c.in_ok-parts.parts.values = record {
      short = omega (arith, c.if-text-gt-MAX_PAGE.false);
      body = c.in-Ok.ensures.read;
      source = c.range.ensures.value;
      read = c.in_ok-reader.ensures.ok;
      items = c.in_ok-parts.ensures.items;
      filled = c.in_ok-parts.ensures.values;
    } in
    let sized = sized_page c.args.text.now c.in-Ok.body c.range.result.now c.in_ok-reader.reader c.in_ok-parts.parts.list.items c.in_ok-parts.parts.values found in
    let o = opened_at c.args.text.now c.in-Ok.body.from c.in-Ok.body.to in
    (page_is c.args.text.now c.range.result.now c.in_ok-reader.reader
    (record { list = c.in_ok-parts.parts.list; values = c.in_ok-parts.parts.values; rows = c.in_ok-rows.rows; body = c.in-Ok.body }) c.in_ok-parts.parts.rows found
    c.pieces_are_even.ensures.insides c.in_ok-parts.ensures.cites c.in_ok-parts.ensures.rows c.in_ok-rows.ensures
    (c.in_ok-check_size.ensures o (sized.1 ∙ sym c.len.ensures) (sized.2 ∙ sym c.len-2.ensures.count))).1
