-- How contracts see the context of checking.
use Rattle.named_data.specs.declared.site.Site.{Site}
use Rattle.named_data.specs.Rules

abbrev pub view_site : Site → Rules.Site
view_site site = record { names = site.scopes.now; spot = site.spot }
