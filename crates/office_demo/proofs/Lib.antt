mod Examples
mod Numbers
