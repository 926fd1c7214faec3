mod ListLemmas
mod UriLemmas
